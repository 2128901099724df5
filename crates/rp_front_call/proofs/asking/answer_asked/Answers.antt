use Rattle.std.proofs.Common.{ℕ, ◌≡◌, ◌<◌, ◌≤◌, List, [], IfOk, length, map, string_bytes, get_or, sym, subst, arith}
use Rattle.std.proofs.lemmas.List.{get_or-map, length-map}
use Rattle.std.specs.Borrow.{Bor}
use Rattle.rp_outside.specs.NamedFile.{named_bytes}
use Rattle.rp_frame.specs.Given.{AreGiven, IsFirstMissing}
use Rattle.rp_front_call.specs.InnerEndings.{TellsUnread}
use Rattle.rp_front_call.proofs.GivenFacts.{asked_ends, many_ends, no_name, unread_ends}
use Rattle.rp_front_call.proofs.asking.answer_asked.Goals as goal

pub returns-then-len-names : goal.returns-then-len-names
returns-then-len-names g c =
    let names = map (λ (name : Bor (List ℕ)). name.now) c.args.names.now in
    let files = map named_bytes c.args.files.items in
    let many : length names < length files = omega (
      arith,
      c.if-len-names.true,
      c.len.ensures,
      c.args.files.ok.0,
      length-map c.args.names.now (λ (name : Bor (List ℕ)). name.now),
      length-map c.args.files.items named_bytes,
    ) in
    many_ends g.P.CalledProgram.meaning (map string_bytes c.args.words.now.items) names files c.silent.result.ending c.silent.result.output.items c.silent.result.told.items
    c.requires many c.silent.ensures.ending c.silent.ensures.output c.silent.ensures.told

pub returns-in-Some : goal.returns-in-Some
returns-in-Some g c =
    let names = map (λ (name : Bor (List ℕ)). name.now) c.args.names.now in
    let files = map named_bytes c.args.files.items in
    let place = c.in-Some.place in
    let few : length files ≤ length names = omega (
      arith,
      c.if-len-names.false,
      c.len.ensures,
      c.args.files.ok.0,
      length-map c.args.names.now (λ (name : Bor (List ℕ)). name.now),
      length-map c.args.files.items named_bytes,
    ) in
    let first : IsFirstMissing files names place = rw (c.as_slice.ensures.value) at c.in-Some.ensures.missing in
    let within : place < length c.args.names.now = omega (arith, first.within, length-map c.args.names.now (λ (name : Bor (List ℕ)). name.now)) in
    let named : (get_or c.args.names.now place no_name).now ≡ get_or names place [] =
    sym (get_or-map (λ (name : Bor (List ℕ)). name.now) c.args.names.now place no_name [] within) in
    unread_ends g.P.CalledProgram.meaning (map string_bytes c.args.words.now.items) names files place c.unread.result c.requires few first
    (subst (λ (name : List ℕ). IfOk c.unread.result (λ texts. TellsUnread g.P.CalledProgram.meaning name texts.ending texts.output.items texts.told.items)) named c.unread.ensures)

pub returns-in-None : goal.returns-in-None
returns-in-None g c =
    let names = map (λ (name : Bor (List ℕ)). name.now) c.args.names.now in
    let files = map named_bytes c.args.files.items in
    let few : length files ≤ length names = omega (
      arith,
      c.if-len-names.false,
      c.len.ensures,
      c.args.files.ok.0,
      length-map c.args.names.now (λ (name : Bor (List ℕ)). name.now),
      length-map c.args.files.items named_bytes,
    ) in
    let given : AreGiven files names = rw (c.as_slice.ensures.value) at c.in-None.ensures.given in
    asked_ends g.P.CalledProgram.meaning (map string_bytes c.args.words.now.items) names files c.run_files.result c.requires few given c.run_files.ensures
