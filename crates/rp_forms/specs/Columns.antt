-- What the headers of a file say (a format of this project's own). A column has the prices or the
-- quantities of a good, under p_NAME or q_NAME, or those of an input, under w_NAME or x_NAME, or it has one of a
-- few other headers.
use Rattle.std.specs.Prelude.{ℕ, Bool, true, false, not, ◌&&◌, nat_eq, nat_le, if◌then◌else◌, List, [], length, drop}
use Rattle.std.specs.Prelude.{◌||◌, filter, map, codes, Option, Some, None, unwrap_or}
use Rattle.std.specs.List.{list_all, list_any, starts_with}
use Rattle.std.specs.Option.{option_map_or, option_or}
use Rattle.std.specs.Str.{bytes_eq}
use Rattle.rp_limits.specs.declared.table.TheConstants.{LARGEST, LARGEST_EXPENDITURE, NAME_BYTES}
use Rattle.rp_forms.specs.Texts.{text_at}
use Rattle.rp_forms.specs.declared.form.Column.{Column}
use Rattle.rp_forms.specs.declared.form.Form.{Form}
use Rattle.rp_forms.specs.declared.form.Marks.{Marks}
use Rattle.rp_forms.specs.declared.form.Marks.TheVariants.{Goods, Inputs}
use Rattle.rp_forms.specs.declared.form.Role.{Role}
use Rattle.rp_forms.specs.declared.form.Role.TheVariants.{Observation, Price, Quantity, Expenditure, Income, Budget}
use Rattle.rp_forms.specs.declared.form.Role.TheVariants.{Times, Output, OutputPrice, Menu, Choice, OwnLevel}

-- a good's name: 1 to NAME_BYTES bytes, none of them a control character
abbrev pub is_name : List ℕ → Bool
is_name name = nat_le 1 (length name) && nat_le (length name) NAME_BYTES && list_all (λ byte. nat_le 32 byte) name

-- what the prices of a good are headed by, before its name
abbrev pub price_mark : List ℕ
price_mark = codes "p_"

-- what the quantities of a good are headed by, before its name
abbrev pub quantity_mark : List ℕ
quantity_mark = codes "q_"

-- the marks of prices and of quantities: those of goods, and those of a technology's inputs
abbrev pub mark_of_prices : Marks → List ℕ
mark_of_prices Goods = price_mark
mark_of_prices Inputs = codes "w_"

abbrev pub mark_of_quantities : Marks → List ℕ
mark_of_quantities Goods = quantity_mark
mark_of_quantities Inputs = codes "x_"

-- the name after the mark
abbrev pub name_in : List ℕ → List ℕ
name_in header = drop 2 header

-- what the column of a good says under these marks
unfoldable pub good_role : Marks → List ℕ → Option Role
good_role marks header =
    if not (is_name (name_in header)) then None
    else if starts_with nat_eq header (mark_of_prices marks) then Some Price
    else if starts_with nat_eq header (mark_of_quantities marks) then Some Quantity
    else None

-- what a column says that is no good's
unfoldable pub named_role : List ℕ → Option Role
named_role header =
    if bytes_eq header (codes "obs") then Some Observation
    else if bytes_eq header (codes "m") then Some Expenditure
    else if bytes_eq header (codes "w") then Some Income
    else if bytes_eq header (codes "budget") then Some Budget
    else if bytes_eq header (codes "n") then Some Times
    else if bytes_eq header (codes "y") then Some Output
    else if bytes_eq header (codes "p") then Some OutputPrice
    else if bytes_eq header (codes "menu") then Some Menu
    else if bytes_eq header (codes "choice") then Some Choice
    else if bytes_eq header (codes "e") then Some OwnLevel
    else None

-- what a column with that header says, where goods have these marks
unfoldable pub role_of : Marks → List ℕ → Option Role
role_of marks header = option_or (named_role header) (good_role marks header)

-- the header of a column that is no good's
abbrev pub header_of : Role → List ℕ
header_of Observation = codes "obs"
header_of Price = []
header_of Quantity = []
header_of Expenditure = codes "m"
header_of Income = codes "w"
header_of Budget = codes "budget"
header_of Times = codes "n"
header_of Output = codes "y"
header_of OutputPrice = codes "p"
header_of Menu = codes "menu"
header_of Choice = codes "choice"
header_of OwnLevel = codes "e"

-- whether a column that a kind of file may have is the one with that header
abbrev pub is_headed : List ℕ → Option Column → Bool
is_headed header None = false
is_headed header (Some column) = bytes_eq (header_of column.role) header

-- whether a kind of file has such columns
abbrev pub takes : Form → Role → Bool
takes form Observation = true
takes form Price = form.prices
takes form Quantity = form.quantities
takes form Expenditure = list_any (is_headed (codes "m")) form.named
takes form Income = list_any (is_headed (codes "w")) form.named
takes form Budget = list_any (is_headed (codes "budget")) form.named
takes form Times = list_any (is_headed (codes "n")) form.named
takes form Output = list_any (is_headed (codes "y")) form.named
takes form OutputPrice = list_any (is_headed (codes "p")) form.named
takes form Menu = list_any (is_headed (codes "menu")) form.named
takes form Choice = list_any (is_headed (codes "choice")) form.named
takes form OwnLevel = list_any (is_headed (codes "e")) form.named

-- whether the fields say how much is bought
abbrev pub measures : Role → Bool
measures Observation = false
measures Price = false
measures Quantity = true
measures Expenditure = true
measures Income = true
measures Budget = false
measures Times = false
measures Output = false
measures OutputPrice = false
measures Menu = false
measures Choice = false
measures OwnLevel = false

-- whether the column is that of the prices of a good, or of its quantities
abbrev pub is_price : Role → Bool
is_price Observation = false
is_price Price = true
is_price Quantity = false
is_price Expenditure = false
is_price Income = false
is_price Budget = false
is_price Times = false
is_price Output = false
is_price OutputPrice = false
is_price Menu = false
is_price Choice = false
is_price OwnLevel = false

abbrev pub is_quantity : Role → Bool
is_quantity Observation = false
is_quantity Price = false
is_quantity Quantity = true
is_quantity Expenditure = false
is_quantity Income = false
is_quantity Budget = false
is_quantity Times = false
is_quantity Output = false
is_quantity OutputPrice = false
is_quantity Menu = false
is_quantity Choice = false
is_quantity OwnLevel = false

-- whether the numbers have the scale of prices, that of quantities, or that of incomes
abbrev pub has_price_scale : Role → Bool
has_price_scale Observation = false
has_price_scale Price = true
has_price_scale Quantity = false
has_price_scale Expenditure = false
has_price_scale Income = false
has_price_scale Budget = false
has_price_scale Times = false
has_price_scale Output = false
has_price_scale OutputPrice = true
has_price_scale Menu = false
has_price_scale Choice = false
has_price_scale OwnLevel = false

abbrev pub has_quantity_scale : Role → Bool
has_quantity_scale Observation = false
has_quantity_scale Price = false
has_quantity_scale Quantity = true
has_quantity_scale Expenditure = false
has_quantity_scale Income = false
has_quantity_scale Budget = false
has_quantity_scale Times = false
has_quantity_scale Output = true
has_quantity_scale OutputPrice = false
has_quantity_scale Menu = false
has_quantity_scale Choice = false
has_quantity_scale OwnLevel = false

abbrev pub has_income_scale : Role → Bool
has_income_scale Observation = false
has_income_scale Price = false
has_income_scale Quantity = false
has_income_scale Expenditure = false
has_income_scale Income = true
has_income_scale Budget = false
has_income_scale Times = false
has_income_scale Output = false
has_income_scale OutputPrice = false
has_income_scale Menu = false
has_income_scale Choice = false
has_income_scale OwnLevel = false

-- whether columns of the two roles have one scale of the file's own
abbrev pub shares_scale : Role → Role → Bool
shares_scale Observation other = false
shares_scale Price other = has_price_scale other
shares_scale Quantity other = has_quantity_scale other
shares_scale Expenditure other = false
shares_scale Income other = has_income_scale other
shares_scale Budget other = false
shares_scale Times other = false
shares_scale Output other = has_quantity_scale other
shares_scale OutputPrice other = has_price_scale other
shares_scale Menu other = false
shares_scale Choice other = false
shares_scale OwnLevel other = false

-- the largest scaled number of a role
abbrev pub limit_of : Role → ℕ
limit_of Observation = LARGEST
limit_of Price = LARGEST
limit_of Quantity = LARGEST
limit_of Expenditure = LARGEST_EXPENDITURE
limit_of Income = LARGEST_EXPENDITURE
limit_of Budget = LARGEST
limit_of Times = LARGEST
limit_of Output = LARGEST
limit_of OutputPrice = LARGEST
limit_of Menu = LARGEST
limit_of Choice = LARGEST
limit_of OwnLevel = LARGEST

-- whether a kind of file has columns of goods
abbrev pub has_goods : Form → Bool
has_goods form = form.prices || form.quantities

-- what the fields of the column at a place say
abbrev pub role_at : Marks → List (List ℕ) → ℕ → Role
role_at marks headers c = unwrap_or (role_of marks (text_at headers c)) Observation

-- the names in the headers with that role, in order
abbrev pub names_with : Marks → (Role → Bool) → List (List ℕ) → List (List ℕ)
names_with marks test headers = map name_in (filter (λ header. option_map_or test (role_of marks header) false) headers)

-- the columns of a file: what kind of file it is, and its headers
pub record Layout : Type 0 where
  pub form : Form
  pub headers : List (List ℕ)
