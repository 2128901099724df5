-- The first fault in the headers of a file: one that such files do not take, one that came before, a good
-- whose partner is missing or that is not fixed, a column that is missing, and too many goods.
use Rattle.std.specs.Prelude.{ℕ, Bool, false, not, ◌&&◌, ◌||◌, ◌==◌, nat_lt, if◌then◌else◌, List, [], ◌∷◌, ◌++◌}
use Rattle.std.specs.Prelude.{length, map, take, Option, None, Some, is_some}
use Rattle.std.specs.List.{list_any}
use Rattle.std.specs.Option.{option_map_or}
use Rattle.rp_limits.specs.declared.table.TheConstants.{GOODS}
use Rattle.rp_num.specs.Below.{first_of, first_there, any_below}
use Rattle.rp_forms.specs.Texts.{trimmed, text_at, place_of, number_of}
use Rattle.rp_sheet.specs.Records.{record_at}
use Rattle.rp_forms.specs.Columns.{role_of, role_at, takes, header_of, is_price, is_quantity, names_with, name_in}
use Rattle.rp_forms.specs.Columns.{mark_of_prices, mark_of_quantities}
use Rattle.rp_forms.specs.Columns.{has_goods}
use Rattle.rp_forms.specs.declared.form.Column.{Column}
use Rattle.rp_forms.specs.declared.form.Form.{Form}
use Rattle.rp_forms.specs.declared.form.Marks.{Marks}
use Rattle.rp_forms.specs.declared.form.Role.{Role}
use Rattle.rp_sheet.specs.declared.fault.TableFault.{TableFault}
use Rattle.rp_sheet.specs.declared.fault.TableFault.TheVariants as fault

-- the headers in a record, without the blanks round them
abbrev pub headers_in : List (List ℕ) → List (List ℕ)
headers_in fields = map trimmed fields

-- the headers of a file with these records: those in its first one
abbrev pub headers_of : List (List (List ℕ)) → List (List ℕ)
headers_of records = headers_in (record_at records 0)

-- whether a column has that header
abbrev pub has : List (List ℕ) → List ℕ → Bool
has headers header = is_some (place_of headers header)

-- the fault of the c-th header
unfoldable pub header_fault : Form → List (List ℕ) → ℕ → Option TableFault
header_fault form headers c =
    if not (option_map_or (takes form) (role_of form.marks (text_at headers c)) false)
    then Some (fault.BadHeader (number_of c))
    else if has (take c headers) (text_at headers c) then Some (fault.TwiceNamed (number_of c))
    else None

-- headers that this kind of file has not, and headers that stand twice, in the order of the columns
unfoldable pub headers_stage : Form → List (List ℕ) → Option TableFault
headers_stage form headers = first_of (length headers) (header_fault form headers)

-- the header of the other column of a good
abbrev pub partner_of : Marks → Role → List ℕ → List ℕ
partner_of marks role header =
    (if is_price role then mark_of_quantities marks else mark_of_prices marks) ++ name_in header

-- a column of a good that has no partner
unfoldable pub pair_fault : Marks → List (List ℕ) → ℕ → Option TableFault
pair_fault marks headers c =
    if (is_price (role_at marks headers c) || is_quantity (role_at marks headers c))
    && not (has headers (partner_of marks (role_at marks headers c) (text_at headers c)))
    then Some (fault.Unpaired (number_of c))
    else None

-- a column of a good that is not one of the fixed goods
unfoldable pub other_goods_fault : Marks → List (List ℕ) → List (List ℕ) → ℕ → Option TableFault
other_goods_fault marks goods headers c =
    if (is_price (role_at marks headers c) || is_quantity (role_at marks headers c))
    && not (has goods (name_in (text_at headers c)))
    then Some (fault.OtherGoods (number_of c))
    else None

-- the columns of goods that are there, in order
unfoldable pub present_fault : Form → List (List ℕ) → List (List ℕ) → Option TableFault
present_fault form goods headers =
    if form.fixed_goods then first_of (length headers) (other_goods_fault form.marks goods headers)
    else if form.prices && form.quantities then first_of (length headers) (pair_fault form.marks headers)
    else None

-- the names of the goods, in the order of their prices, or of their quantities where there are no prices
abbrev pub names_of : Form → List (List ℕ) → List (List ℕ)
names_of form headers = names_with form.marks (if form.prices then is_price else is_quantity) headers

-- whether a column is required and missing
abbrev pub is_missing : List (List ℕ) → Option Column → Bool
is_missing headers None = false
is_missing headers (Some column) = column.required && not (has headers (header_of column.role))

-- whether a column is missing that is no good's
abbrev pub lacks_column : Form → List (List ℕ) → Bool
lacks_column form headers = list_any (is_missing headers) form.named

-- what the column of a good is headed by in such a file, before its name: its prices, or its quantities
-- where there are no prices
abbrev pub good_mark : Form → List ℕ
good_mark form = if form.prices then mark_of_prices form.marks else mark_of_quantities form.marks

-- whether one of the fixed goods has no column
abbrev pub lacks_good : Form → List (List ℕ) → List (List ℕ) → Bool
lacks_good form goods headers = any_below (length goods) (λ g. not (has headers (good_mark form ++ text_at goods g)))

-- columns that are missing: every good or another needed one, and then one of the fixed goods
unfoldable pub missing_fault : Form → List (List ℕ) → List (List ℕ) → Option TableFault
missing_fault form goods headers =
    if (has_goods form && (length (names_of form headers) == 0))
    || lacks_column form headers then Some (fault.Unpaired 0)
    else if form.fixed_goods && lacks_good form goods headers then Some (fault.OtherGoods 0)
    else None

-- more goods than the limit
unfoldable pub goods_count_fault : Form → List (List ℕ) → Option TableFault
goods_count_fault form headers = if nat_lt GOODS (length (names_of form headers)) then Some fault.TooManyGoods else None

-- the goods: their columns that are there, the columns that are missing, and how many goods there are
unfoldable pub goods_stage : Form → List (List ℕ) → List (List ℕ) → Option TableFault
goods_stage form goods headers =
    first_there (present_fault form goods headers ∷ missing_fault form goods headers
    ∷ goods_count_fault form headers ∷ [])
