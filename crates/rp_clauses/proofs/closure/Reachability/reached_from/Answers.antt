use Rattle.std.proofs.Common.{◌≤◌, length, sym, subst}
use Rattle.rp_evidence.specs.Marks.{IsMarked}
use Rattle.rp_evidence.specs.Reached.{Reached}
use Rattle.rp_clauses.proofs.SeenClosures.{seen_from}
use Rattle.rp_clauses.proofs.closure.Reachability.reached_from.Goals as goal

pub united-requires : goal.united-requires
united-requires c = record {
  few = c.self.invariant;
  marks = subst (λ (v : Reached). v.n ≤ length c.args.marks.now) (sym c.self.view_is) c.requires;
}

pub returns : goal.returns
returns c =
    let f = c.self.inside in
    seen_from c.args.self.now f.n f.rows c.self.view_is (IsMarked c.args.marks.now) c.united.result c.united.ensures
