use Rattle.std.proofs.Common.{ℕ, ◌≡◌, ◌∙◌, ◌<◌, ◌≤◌, List, [], IfOk, length, map, string_bytes, get_or, ap, sym, subst, arith}
use Rattle.std.proofs.lemmas.List.{get_or-map, length-map}
use Rattle.std.specs.Borrow.{Bor}
use Rattle.rp_outside.specs.NamedFile.{named_bytes}
use Rattle.rp_command_line.specs.CommandLine.{file_at, files_of}
use Rattle.rp_command_line.specs.Named.{named_line}
use Rattle.rp_frame.specs.Given.{AreGiven, IsFirstMissing}
use Rattle.rp_call.specs.RunEndings.{TellsUnread}
use Rattle.rp_call.proofs.GivenFacts.{line_ends, many_ends, no_name, unread_ends}
use Rattle.rp_call.proofs.asking.answer_line.Goals as goal

pub returns-then-len-names : goal.returns-then-len-names
returns-then-len-names g c =
    let line = named_line c.args.line.now in
    let files = map named_bytes c.args.files.items in
    let many : length (files_of line) < length files = omega (
      arith,
      c.if-len-names.true,
      c.len.ensures,
      c.args.files.ok.0,
      ap length c.as_slice-names.ensures.value,
      length-map c.args.line.now.arguments.files.items (λ (file : Bor (List ℕ)). file.now),
      length-map c.args.files.items named_bytes,
    ) in
    many_ends g.P.Edition.printed (map string_bytes c.args.words.now.items) files line c.silent.result.ending c.silent.result.output.items c.silent.result.told.items
    c.requires many c.silent.ensures.ending c.silent.ensures.output c.silent.ensures.told

pub returns-in-Some : goal.returns-in-Some
returns-in-Some g c =
    let line = named_line c.args.line.now in
    let files = map named_bytes c.args.files.items in
    let names = c.args.line.now.arguments.files.items in
    let place = c.in-Some.place in
    let few : length files ≤ length (files_of line) = omega (
      arith,
      c.if-len-names.false,
      c.len.ensures,
      c.args.files.ok.0,
      ap length c.as_slice-names.ensures.value,
      length-map names (λ (file : Bor (List ℕ)). file.now),
      length-map c.args.files.items named_bytes,
    ) in
    let first : IsFirstMissing files (files_of line) place = rw (c.as_slice.ensures.value, c.as_slice-names.ensures.value) at c.in-Some.ensures.missing in
    let within : place < length names = omega (arith, first.within, length-map names (λ (file : Bor (List ℕ)). file.now)) in
    let named : (get_or c.as_slice-names.result.now place no_name).now ≡ file_at line place =
    ap (λ (all : List (Bor (List ℕ))). (get_or all place no_name).now) c.as_slice-names.ensures.value
    ∙ sym (get_or-map (λ (file : Bor (List ℕ)). file.now) names place no_name [] within) in
    unread_ends g.P.Edition.printed (map string_bytes c.args.words.now.items) files line place c.unread.result c.requires few first
    (subst (λ (name : List ℕ). IfOk c.unread.result (λ texts. TellsUnread name texts.ending texts.output.items texts.told.items)) named c.unread.ensures)

pub returns-in-None : goal.returns-in-None
returns-in-None g c =
    let line = named_line c.args.line.now in
    let files = map named_bytes c.args.files.items in
    let few : length files ≤ length (files_of line) = omega (
      arith,
      c.if-len-names.false,
      c.len.ensures,
      c.args.files.ok.0,
      ap length c.as_slice-names.ensures.value,
      length-map c.args.line.now.arguments.files.items (λ (file : Bor (List ℕ)). file.now),
      length-map c.args.files.items named_bytes,
    ) in
    let given : AreGiven files (files_of line) = rw (c.as_slice.ensures.value, c.as_slice-names.ensures.value) at c.in-None.ensures.given in
    line_ends g.P.Edition.printed (map string_bytes c.args.words.now.items) files line c.run_files.result c.requires few given c.run_files.ensures
