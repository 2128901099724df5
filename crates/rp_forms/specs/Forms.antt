-- The kinds of files, by what each has.
use Rattle.std.specs.Prelude.{ℕ, Bool, true, false, if◌then◌else◌, [], ◌∷◌, Option, Some, None}
use Rattle.rp_limits.specs.declared.table.TheConstants.{RECORDS, NEW_RECORDS, BUDGETS, CHOICES}
use Rattle.rp_forms.specs.declared.form.Column.{Column}
use Rattle.rp_forms.specs.declared.form.Form.{Form}
use Rattle.rp_forms.specs.declared.form.Marks.TheVariants.{Goods, Inputs}
use Rattle.rp_forms.specs.declared.form.Role.{Role}
use Rattle.rp_forms.specs.declared.form.Role.TheVariants.{Expenditure, Income, Budget, Times, Output, OutputPrice}
use Rattle.rp_forms.specs.declared.form.Role.TheVariants.{Menu, Choice, OwnLevel}

-- a column that such a file has to have
abbrev pub required : Role → Option Column
required role = Some (record { role = role; required = true })

-- a column that such a file may have
abbrev pub optional : Role → Option Column
optional role = Some (record { role = role; required = false })

-- a table has a column of prices and one of quantities for each good, and names its goods. It may have
-- own levels
abbrev pub table_form : Form
table_form = record {
  marks = Goods;
  prices = true;
  quantities = true;
  named = optional OwnLevel ∷ None ∷ None ∷ [];
  fixed_goods = false;
  fixed_places = false;
  places = 0;
  budgets = 0;
  most = RECORDS;
}

-- new prices are those of a table's goods, with an expenditure or without one. An expenditure is scaled with
-- the places of the table's quantities
abbrev pub prices_form : Bool → ℕ → Form
prices_form with_m places = record {
  marks = Goods;
  prices = true;
  quantities = false;
  named = (if with_m then required Expenditure else None) ∷ None ∷ None ∷ [];
  fixed_goods = true;
  fixed_places = true;
  places = places;
  budgets = 0;
  most = NEW_RECORDS;
}

-- bundles are quantities of a table's goods, at the scale of the table's quantities
abbrev pub bundles_form : ℕ → Form
bundles_form places = record {
  marks = Goods;
  prices = false;
  quantities = true;
  named = None ∷ None ∷ None ∷ [];
  fixed_goods = true;
  fixed_places = true;
  places = places;
  budgets = 0;
  most = NEW_RECORDS;
}

-- budgets name their goods, and have a price of each and an income
abbrev pub budgets_form : Form
budgets_form = record {
  marks = Goods;
  prices = true;
  quantities = false;
  named = required Income ∷ None ∷ None ∷ [];
  fixed_goods = false;
  fixed_places = false;
  places = 0;
  budgets = 0;
  most = BUDGETS;
}

-- choices are quantities of the goods of some budgets, with the number of a budget and a count
abbrev pub choices_form : ℕ → Form
choices_form budgets = record {
  marks = Goods;
  prices = false;
  quantities = true;
  named = required Budget ∷ required Times ∷ None ∷ [];
  fixed_goods = true;
  fixed_places = false;
  places = 0;
  budgets = budgets;
  most = CHOICES;
}

-- a technology has a column of prices and one of quantities for each input, and names its inputs. It has an
-- output, and may have the output's price
abbrev pub technology_form : Form
technology_form = record {
  marks = Inputs;
  prices = true;
  quantities = true;
  named = required Output ∷ optional OutputPrice ∷ None ∷ [];
  fixed_goods = false;
  fixed_places = false;
  places = 0;
  budgets = 0;
  most = RECORDS;
}

-- what is asked of a technology: new prices of its inputs and an output, at the scale of its quantities
abbrev pub asked_form : ℕ → Form
asked_form places = record {
  marks = Inputs;
  prices = true;
  quantities = false;
  named = required Output ∷ None ∷ None ∷ [];
  fixed_goods = true;
  fixed_places = true;
  places = places;
  budgets = 0;
  most = NEW_RECORDS;
}

-- choices from menus have no goods: a menu and what was chosen from it, both texts, and a count
abbrev pub menus_form : Form
menus_form = record {
  marks = Goods;
  prices = false;
  quantities = false;
  named = required Menu ∷ required Choice ∷ required Times ∷ [];
  fixed_goods = false;
  fixed_places = false;
  places = 0;
  budgets = 0;
  most = CHOICES;
}
