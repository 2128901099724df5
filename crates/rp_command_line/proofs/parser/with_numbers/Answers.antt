use Rattle.std.proofs.Common.{◌≤◌, ◌||◌, [], length, refl, ◌∙◌, ap₂, arith}
use Rattle.std.proofs.lemmas.List.{append-nil, take_all}
use Rattle.clap.specs.Simple.{app_of}
use Rattle.clap.specs.Walk.{rule_of}
use Rattle.rp_command_line.specs.Commands.{number_rule}
use Rattle.rp_command_line.specs.Named.{named_number}
use Rattle.rp_command_line.specs.declared.commands.NumberArgument.{NumberArgument}
use Rattle.rp_command_line.proofs.WordLemmas.{rule_more}
use Rattle.rp_command_line.proofs.parser.with_numbers.Goals as goal

pub loop-number-init : goal.loop-number-init
loop-number-init c = record { shape = rw (append-nil (app_of c.args.command).top.rules) refl; local = c.requires }

pub loop-number-preserved : goal.loop-number-preserved
loop-number-preserved c = record {
  shape = rule_more (λ (number : NumberArgument). number_rule (named_number number)) c.args.numbers.now c.loop-number.number-index (record { name = record { ref_ptr = (0, 0); now = [] }; least = 0; most = 0 }) (app_of c.args.command) (app_of c.loop-number.more) (app_of c.in_ok-more.more)
      (rule_of c.number_argument.result) c.loop-number-test.true c.loop-number.invariant.shape c.number_argument.ensures.rule (c.in_ok-more.ensures.shape c.number_argument.ensures.local);
  local = c.in_ok-more.ensures.globals ∙ ap₂ (λ a b. a || b) c.loop-number.invariant.local c.number_argument.ensures.local;
}

pub returns-clause-shape : goal.returns-clause-shape
returns-clause-shape c =
    let all : length c.args.numbers.now ≤ c.loop-number.number-index = omega arith in
    rw (take_all c.loop-number.number-index c.args.numbers.now all) at c.loop-number.invariant.shape
