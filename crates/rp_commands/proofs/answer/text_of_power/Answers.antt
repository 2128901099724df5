use Rattle.rp_commands.proofs.answer.text_of_power.Goals as goal

pub returns : goal.returns
returns c = rw (c.number-seed.ensures, c.number-draws.ensures) at c.power_text.ensures
