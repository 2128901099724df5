use Rattle.std.proofs.Common.{◌≤◌, ◌||◌, [], length, refl, ◌∙◌, ap₂, arith}
use Rattle.std.proofs.lemmas.List.{append-nil, take_all}
use Rattle.std.specs.Borrow.{Bor}
use Rattle.clap.specs.Simple.{app_of}
use Rattle.clap.specs.Walk.{Text, rule_of}
use Rattle.rp_command_line.specs.Commands.{file_rule}
use Rattle.rp_command_line.proofs.WordLemmas.{rule_more}
use Rattle.rp_command_line.proofs.parser.with_files.Goals as goal

pub loop-file-init : goal.loop-file-init
loop-file-init c = record { shape = rw (append-nil (app_of c.args.command).top.rules) refl; local = c.requires }

pub loop-file-preserved : goal.loop-file-preserved
loop-file-preserved c = record {
  shape = rule_more (λ (file : Bor Text). file_rule file.now) c.args.files.now c.loop-file.file-index (record { ref_ptr = (0, 0); now = [] }) (app_of c.args.command) (app_of c.loop-file.more) (app_of c.in_ok-more.more)
      (rule_of c.file_argument.result) c.loop-file-test.true c.loop-file.invariant.shape c.file_argument.ensures.rule (c.in_ok-more.ensures.shape c.file_argument.ensures.local);
  local = c.in_ok-more.ensures.globals ∙ ap₂ (λ a b. a || b) c.loop-file.invariant.local c.file_argument.ensures.local;
}

pub returns-clause-shape : goal.returns-clause-shape
returns-clause-shape c =
    let all : length c.args.files.now ≤ c.loop-file.file-index = omega arith in
    rw (take_all c.loop-file.file-index c.args.files.now all) at c.loop-file.invariant.shape
