use Rattle.std.proofs.Common.{◌≡◌, ◌<◌, ◌∙◌, ◌++◌, ◌∷◌, [], ap, length, rules}
use Rattle.rp_patch.specs.PartialTypes.{taken_in}
use Rattle.rp_patch.proofs.SearchLaws.{whole_type}
use Rattle.rp_types.proofs.ListedTypes.{one_more_listed, too_many}
use Rattle.rp_types.proofs.search.push_type.Goals as goal

pub returns-then-len-clause-refused : goal.returns-then-len-clause-refused
returns-then-len-clause-refused c =
    too_many c.args.patches.now (taken_in c.args.partial.now) c.args.types.now.items c.requires.so_far
    (whole_type c.args.patches.now c.args.partial.now c.requires.partial c.requires.whole c.requires.partial.0.count) (search rules)

pub returns-clause-listed : goal.returns-clause-listed
returns-clause-listed c =
    let front = taken_in c.args.partial.now in
    let room : length c.args.types.now.items < 4096 = search rules in
    let pushed : c.push.new.self.items ≡ c.args.types.now.items ++ record { patches = c.from_vec.result } ∷ [] = c.in_ok-push.ensures.items in
    one_more_listed c.args.patches.now front c.args.types.now.items c.requires.so_far
    (whole_type c.args.patches.now c.args.partial.now c.requires.partial c.requires.whole c.requires.partial.0.count) c.push.new.self.items room
    (pushed ∙ ap (λ xs. c.args.types.now.items ++ record { patches = xs } ∷ []) (c.from_vec.ensures ∙ c.in_ok-taken.ensures.items ∙ c.patches.ensures))
