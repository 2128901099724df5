-- The columns of a file that are measured to its places are those of one role: what the file takes of quantities, of
-- what is spent and of incomes.
use Rattle.std.proofs.Common.{◌≡◌, Bool, true, false, Option, Some, None, ap}
use Rattle.std.specs.Prelude.{unwrap_or}
use Rattle.std.specs.Option.{option_map_or}
use Rattle.rp_forms.specs.Columns.{measures}
use Rattle.rp_forms.specs.declared.form.Role.{Role}
use Rattle.rp_forms.specs.declared.form.Role.TheVariants.{Observation, Price, Quantity, Expenditure, Income, Budget, Times, Output, OutputPrice, Menu, Choice, OwnLevel}

pub measured_role : (taken : Role → Bool) (measured : Role) → (taken Quantity ≡ true → Quantity ≡ measured)
    → (taken Expenditure ≡ true → Expenditure ≡ measured) → (taken Income ≡ true → Income ≡ measured)
    → (o : Option Role) → option_map_or taken o false ≡ true → measures (unwrap_or o Observation) ≡ true → o ≡ Some measured
measured_role taken measured quantity expenditure income None e m = cc e
measured_role taken measured quantity expenditure income (Some Observation) e m = cc m
measured_role taken measured quantity expenditure income (Some Price) e m = cc m
measured_role taken measured quantity expenditure income (Some Quantity) e m = ap Some (quantity e)
measured_role taken measured quantity expenditure income (Some Expenditure) e m = ap Some (expenditure e)
measured_role taken measured quantity expenditure income (Some Income) e m = ap Some (income e)
measured_role taken measured quantity expenditure income (Some Budget) e m = cc m
measured_role taken measured quantity expenditure income (Some Times) e m = cc m
measured_role taken measured quantity expenditure income (Some Output) e m = cc m
measured_role taken measured quantity expenditure income (Some OutputPrice) e m = cc m
measured_role taken measured quantity expenditure income (Some Menu) e m = cc m
measured_role taken measured quantity expenditure income (Some Choice) e m = cc m
measured_role taken measured quantity expenditure income (Some OwnLevel) e m = cc m
