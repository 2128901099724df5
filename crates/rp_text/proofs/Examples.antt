-- What files denote as tables, tried at worked texts.
use Rattle.std.proofs.Common.{◌≡◌, List, ℕ, [], ◌∷◌, ◌++◌, refl, Ok, Err, true, false}
use Rattle.std.specs.Prelude.{⊤, codes}
use Rattle.csv.specs.Machine.{next_record}
use Rattle.csv.specs.Reading.{records_from, strip_bom}
use Rattle.rp_forms.specs.Texts.{after_blanks, before_blanks}
use Rattle.rp_forms.specs.Columns.{named_role, good_role, role_of}
use Rattle.rp_sheet.specs.Records.{records_in}
use Rattle.rp_sheet.specs.Headers.{header_fault, headers_stage, pair_fault, other_goods_fault, present_fault, missing_fault, goods_count_fault, goods_stage}
use Rattle.rp_sheet.specs.Fields.{field_of, field_at, record_fault, count_stage, fields_stage}
use Rattle.rp_sheet.specs.Sizes.{greatest_places, places_of, size_at, sizes_stage}
use Rattle.rp_sheet.specs.ChoiceCounts.{is_chosen, choices_stage}
use Rattle.rp_text.specs.Denotation.{table_of, denoted_table, table_in, prices_of, denoted_prices, bundles_of, denoted_bundles, budgets_of, denoted_budgets, choices_of, denoted_choices}
use Rattle.rp_sheet.specs.SheetFiles.{denoted_by}
use Rattle.rp_sheet.specs.Sheets.{fault_under, first_fault}
use Rattle.rp_sheet.specs.declared.fault.TableFault.TheVariants as fault

-- what computes a file's meaning
unfoldable on_files : ⊤
unfolding next_record records_from strip_bom after_blanks before_blanks named_role good_role role_of records_in header_fault headers_stage pair_fault other_goods_fault present_fault missing_fault goods_count_fault goods_stage field_of field_at record_fault count_stage fields_stage greatest_places places_of size_at sizes_stage is_chosen choices_stage fault_under first_fault denoted_by table_of denoted_table prices_of denoted_prices bundles_of denoted_bundles budgets_of denoted_budgets choices_of denoted_choices
on_files = tt

line : List ℕ → List ℕ
line text = text ++ (10 ∷ [])

two_goods : List ℕ
two_goods = codes "p_a,q_a,p_b,q_b"

empty_file : table_in [] ≡ Err fault.Empty
unfolding on_files
empty_file = refl

only_headers : table_in (codes "p_a,q_a") ≡ Err fault.NoRecords
unfolding on_files
only_headers = refl

no_partner : table_in (codes "p_a,q_b") ≡ Err (fault.Unpaired 1)
unfolding on_files
no_partner = refl

two_columns_of_one_header : table_in (codes "p_a,p_a") ≡ Err (fault.TwiceNamed 2)
unfolding on_files
two_columns_of_one_header = refl

another_header : table_in (codes "price") ≡ Err (fault.BadHeader 1)
unfolding on_files
another_header = refl

-- a header that stands twice comes before one of a later column that no table has
first_column_first : table_in (codes "p_a,p_a,price") ≡ Err (fault.TwiceNamed 2)
unfolding on_files
first_column_first = refl

no_good : table_in (codes "obs") ≡ Err (fault.Unpaired 0)
unfolding on_files
no_good = refl

-- a byte order mark, line ends of two bytes, blanks round a number, prices with two places
scaled_table : table_in (0xEF ∷ 0xBB ∷ 0xBF ∷ codes "p_a,q_a,p_b,q_b\r\n1.25,2,2.5,1\r\n2.50, 1 ,1.25,2\r\n")
    ≡ Ok (record { names = codes "a" ∷ codes "b" ∷ []; prices = 125 ∷ 250 ∷ 250 ∷ 125 ∷ []; quantities = 2 ∷ 1 ∷ 1 ∷ 2 ∷ []; price_places = 2; quantity_places = 0; levels = [] })
unfolding on_files
scaled_table = refl

-- columns in another order, and one that says nothing
any_order : table_in (codes "q_a, obs ,p_b,p_a,q_b\n2,one,4,3,5\n")
    ≡ Ok (record { names = codes "b" ∷ codes "a" ∷ []; prices = 4 ∷ 3 ∷ []; quantities = 5 ∷ 2 ∷ []; price_places = 0; quantity_places = 0; levels = [] })
unfolding on_files
any_order = refl

zero_price : table_in (line two_goods ++ codes "0,1,2,3") ≡ Err (fault.ZeroPrice 1 1)
unfolding on_files line two_goods
zero_price = refl

zero_bundle : table_in (line two_goods ++ codes "1,0,2,0") ≡ Err (fault.ZeroBundle 1)
unfolding on_files line two_goods
zero_bundle = refl

-- a comma in quotes is no mark of a decimal, and it is not dropped
comma_in_quotes : table_in (line two_goods ++ codes "\"1,5\",1,2,1") ≡ Err (fault.BadNumber 1 1)
unfolding on_files line two_goods
comma_in_quotes = refl

ragged : table_in (line two_goods ++ codes "1,2,3") ≡ Err (fault.Ragged 1)
unfolding on_files line two_goods
ragged = refl

-- a record of another length is told before its fields
ragged_first : table_in (line two_goods ++ codes "x,2,3") ≡ Err (fault.Ragged 1)
unfolding on_files line two_goods
ragged_first = refl

many_places : table_in (line two_goods ++ codes "1.1234567,1,1,1") ≡ Err (fault.TooManyDecimals 1 1)
unfolding on_files line two_goods
many_places = refl

last_zeros : table_in (line two_goods ++ codes "1.5000000,1,1,1") ≡ Ok (record { names = codes "a" ∷ codes "b" ∷ []; prices = 15 ∷ 10 ∷ []; quantities = 1 ∷ 1 ∷ []; price_places = 1; quantity_places = 0; levels = [] })
unfolding on_files line two_goods
last_zeros = refl

largest : table_in (line two_goods ++ codes "9999999,1,1,1") ≡ Ok (record { names = codes "a" ∷ codes "b" ∷ []; prices = 9999999 ∷ 1 ∷ []; quantities = 1 ∷ 1 ∷ []; price_places = 0; quantity_places = 0; levels = [] })
unfolding on_files line two_goods
largest = refl

too_large : table_in (line two_goods ++ codes "10000000,1,1,1") ≡ Err (fault.TooLarge 1 1)
unfolding on_files line two_goods
too_large = refl

-- a fault of a later record's field comes before an earlier number that is too large
stage_first : table_in (line two_goods ++ line (codes "10000000,1,1,1") ++ codes "1,1,1,+1") ≡ Err (fault.BadNumber 2 4)
unfolding on_files line two_goods
stage_first = refl

-- own levels, in a column that may stand anywhere and whose numbers may have places of zeros
levels_read : table_in (codes "e,p_a,q_a\n1,2,3\n1000.00,2,3\n")
    ≡ Ok (record { names = codes "a" ∷ []; prices = 2 ∷ 2 ∷ []; quantities = 3 ∷ 3 ∷ []; price_places = 0; quantity_places = 0; levels = 1 ∷ 1000 ∷ [] })
unfolding on_files
levels_read = refl

level_too_low : table_in (line (codes "p_a,q_a,e") ++ codes "2,3,0") ≡ Err (fault.BadLevel 1 3)
unfolding on_files line
level_too_low = refl

level_too_high : table_in (line (codes "p_a,q_a,e") ++ codes "2,3,1001") ≡ Err (fault.BadLevel 1 3)
unfolding on_files line
level_too_high = refl

level_with_places : table_in (line (codes "p_a,q_a,e") ++ codes "2,3,999.5") ≡ Err (fault.BadNumber 1 3)
unfolding on_files line
level_with_places = refl

goods_a_b : List (List ℕ)
goods_a_b = codes "a" ∷ codes "b" ∷ []

-- an expenditure with a place beside prices and quantities without any
too_fine : denoted_prices true 0 goods_a_b (records_in (codes "p_a,p_b,m\n1,1,3.5\n")) ≡ Err (fault.TooFine 1 3)
unfolding on_files goods_a_b
too_fine = refl

no_expenditure : denoted_prices true 0 goods_a_b (records_in (codes "p_a,p_b,m\n1,1,0\n")) ≡ Err (fault.ZeroBundle 1)
unfolding on_files goods_a_b
no_expenditure = refl

-- prices with a place beside quantities with two: an expenditure has three
scaled_expenditure : denoted_prices true 2 goods_a_b (records_in (codes "m,p_b,p_a\n1.125,2.5,3\n"))
    ≡ Ok (record { goods = 2; prices = 30 ∷ 25 ∷ []; m = 1125 ∷ [] })
unfolding on_files goods_a_b
scaled_expenditure = refl

expenditure_missing : denoted_prices true 0 goods_a_b (records_in (codes "p_a,p_b")) ≡ Err (fault.Unpaired 0)
unfolding on_files goods_a_b
expenditure_missing = refl

good_not_given : denoted_prices false 0 goods_a_b (records_in (codes "p_a,p_c")) ≡ Err (fault.OtherGoods 2)
unfolding on_files goods_a_b
good_not_given = refl

good_missing : denoted_bundles 0 goods_a_b (records_in (codes "q_a")) ≡ Err (fault.OtherGoods 0)
unfolding on_files goods_a_b
good_missing = refl

given_scale : denoted_bundles 2 goods_a_b (records_in (codes "q_a,q_b\n1.5,0\n")) ≡ Ok (record { goods = 2; quantities = 150 ∷ 0 ∷ [] })
unfolding on_files goods_a_b
given_scale = refl

finer_bundle : denoted_bundles 1 goods_a_b (records_in (codes "q_a,q_b\n1.25,0\n")) ≡ Err (fault.TooFine 1 1)
unfolding on_files goods_a_b
finer_bundle = refl

two_budgets : denoted_budgets (records_in (codes "p_a,p_b,w\n1,2,4.5\n2,1.25,4\n"))
    ≡ Ok (record { names = codes "a" ∷ codes "b" ∷ []; prices = 100 ∷ 200 ∷ 200 ∷ 125 ∷ []; w = 45 ∷ 40 ∷ [] })
unfolding on_files
two_budgets = refl

-- own levels are those of a table
levels_of_budgets : denoted_budgets (records_in (codes "p_a,w,e\n1,4,1000\n")) ≡ Err (fault.BadHeader 3)
unfolding on_files
levels_of_budgets = refl

third_of_two_budgets : denoted_choices 2 goods_a_b (records_in (codes "budget,q_a,q_b,n\n3,1,1,1\n")) ≡ Err (fault.UnknownBudget 1)
unfolding on_files goods_a_b
third_of_two_budgets = refl

no_choices_on_the_second : denoted_choices 2 goods_a_b (records_in (codes "budget,q_a,q_b,n\n1,1,1,5\n2,1,1,0\n")) ≡ Err (fault.NoChoices 2)
unfolding on_files goods_a_b
no_choices_on_the_second = refl

whole_with_a_zero : denoted_choices 1 goods_a_b (records_in (codes "n,q_b,q_a,budget\n7,0.5,1,1.0\n")) ≡ Ok (record { goods = 2; budget = 0 ∷ []; quantities = 10 ∷ 5 ∷ []; times = 7 ∷ [] })
unfolding on_files goods_a_b
whole_with_a_zero = refl

not_whole : denoted_choices 2 goods_a_b (records_in (codes "budget,q_a,q_b,n\n1.5,1,1,1\n")) ≡ Err (fault.BadNumber 1 1)
unfolding on_files goods_a_b
not_whole = refl
