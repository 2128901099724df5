use Rattle.rp_check.proofs.item.check_item.Goals as goal

pub returns-in-Demand : goal.returns-in-Demand
returns-in-Demand c = rw c.in-Demand.is (rw c.as_slice.ensures at c.check_demand_item.ensures)

pub returns-in-Welfare : goal.returns-in-Welfare
returns-in-Welfare c = rw c.in-Welfare.is (rw c.as_slice-in-Welfare.ensures at c.check_welfare_item.ensures)
