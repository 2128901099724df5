use Rattle.rp_text.proofs.plain.plain_tables.Goals as goal
use Rattle.rp_text.proofs.PlainBytes.{plain_table}

pub returns : goal.returns
returns c = plain_table c.args.bytes.now
