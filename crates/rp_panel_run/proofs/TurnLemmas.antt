-- For which files a desk is asked, from what the loaders of each say.
use Rattle.std.proofs.Common.{◌≡◌, ◌≢◌, ◌≤◌, ◌+◌, ℕ, zero, suc, List, [], ◌∷◌, None, Some, Option, inl, inr, length, refl, sum, take, sym, subst, ap, ◌∙◌, arith, append-nil}
use Rattle.rp_bound_rows.specs.declared.asked.BoundsAsked.{BoundsAsked}
use Rattle.rp_front.specs.AskedInTurn.{AreAskedInTurn, AreOfFirst, GrowsByFirst}
use Rattle.rp_front.specs.Contents.{AreRefused, first_known}
use Rattle.rp_front.specs.Turns.{AreReadInTurn, AsksForFirst, calls_of_each}
use Rattle.rp_front.proofs.RunLemmas.{stays_first}
use Rattle.rp_front.proofs.TurnLemmas.{asks_first, asks_one, asks_then, first_asked, first_turn, no_less}
use Rattle.rp_limits.specs.declared.long.TheConstants.{BYTES}
use Rattle.rp_limits.specs.declared.run.TheConstants.{MOST_BYTES}
use Rattle.rp_outside.specs.Asked.{AsksAtMostOnce, AsksOnce, KeepsReads, Reads}
use Rattle.rp_outside.specs.Known.{AreAll}
use Rattle.rp_outside.specs.Reads.{calls_through}
use Rattle.rp_panel_run.specs.Endings.{Files, HasFault}
use Rattle.rp_panel_run.specs.Front.{IsKnownLongRefusal, IsKnownNewRefusal, new_limits, panels}
use Rattle.rp_panel_run.specs.InnerCauses.{AsksForNew, AsksForNone, IsFaulty}
use Rattle.rp_panel_run.specs.Questions.{Asking, files_of, new_files}
use Rattle.rp_panel_run.specs.Turns.{calls_of_long, calls_of_new}
use Rattle.rp_panel_run.specs.Laws.{begins_unrefused}

-- the file of new prices
pub none_for_new : (bounds : Option BoundsAsked) (file : List ℕ) (known : Option (List ℕ)) (count : ℕ) (reads : Option Reads) → AsksForNew bounds file known count count reads reads
none_for_new bounds file known count reads = record { calls = omega arith; names = stays_first reads (new_files bounds file) (length (new_files bounds file)) }

pub asks_for_new : (bounds : Option BoundsAsked) (file : List ℕ) (files : Files) (name : List ℕ) (before after : ℕ) (old new : Option Reads) → name ≡ file → bounds ≢ None
    → after ≤ before + calls_through MOST_BYTES (files name) → AsksAtMostOnce old new name → AsksForNew bounds file (files file) before after old new
asks_for_new None file files name before after old new same some calls once = absurd (some refl)
asks_for_new (Some asked) file files name before after old new same some calls once = record {
  calls = subst (λ (n : List ℕ). after ≤ before + calls_through MOST_BYTES (files n)) same calls;
  names = asks_first old new file [] 0 (subst (λ (n : List ℕ). AsksAtMostOnce old new n) same once);
}

-- reads of the file of new prices alone are of the first of the files that come after the long one
more_of : (bounds : Option BoundsAsked) (file : List ℕ) (n : ℕ) (reads : Reads) → AreOfFirst (length (new_files bounds file)) (new_files bounds file) reads → AreOfFirst (suc n) (new_files bounds file) reads
more_of None file n reads none = none
more_of (Some asked) file n reads (inl none) = inl none
more_of (Some asked) file zero reads (inr own) = inr own
more_of (Some asked) file (suc n) reads (inr own) = inr own

-- without reads, none are
grows_by_none : (before after : Option Reads) (files : List (List ℕ)) → KeepsReads before after → GrowsByFirst before after files 0
grows_by_none before after files keeps reads is = ([], keeps reads is ∙ ap Some (sym (append-nil reads)), refl)

module _ (a : Asking) (files : Files) (name : List ℕ) (of_file : name ≡ a.file) where
  module _ (before after : ℕ) (calls : after ≤ before + calls_through BYTES (files name)) where
    own_calls : after ≤ before + calls_of_long a files
    own_calls = subst (λ (n : List ℕ). after ≤ before + calls_through BYTES (files n)) of_file calls

    -- the long file alone
    pub long_asks : AsksForFirst panels files before after a 1
    long_asks = asks_one panels begins_unrefused files a (calls_of_long a files) (calls_of_each files (new_limits a.bounds) (new_files a.bounds a.new_prices)) refl before after own_calls

    pub long_turn : AreReadInTurn panels files before after a
    long_turn = first_turn panels begins_unrefused files a (calls_of_long a files) (calls_of_each files (new_limits a.bounds) (new_files a.bounds a.new_prices)) refl
        before after (length (new_files a.bounds a.new_prices)) refl own_calls

  pub long_asked : (before after : Option Reads) → AsksAtMostOnce before after name → AreAskedInTurn panels files before after a
  long_asked before after once = first_asked panels begins_unrefused files a a.file (new_files a.bounds a.new_prices) before after refl
      (subst (λ (n : List ℕ). AsksAtMostOnce before after n) of_file once)

  -- the long file, and then that of new prices
  module _ (before mid after : ℕ) (calls : mid ≤ before + calls_through BYTES (files name)) where
    of_both : (bounds : Option BoundsAsked) → after ≤ mid + calls_of_new bounds (files a.new_prices) → (n : ℕ)
        → after ≤ before + sum (take (suc (suc n)) (calls_of_each files (BYTES ∷ new_limits bounds) (a.file ∷ new_files bounds a.new_prices)))
    of_both None also n =
        let first : 0 + calls_of_long a files ≤ sum (take (suc (suc n)) (calls_of_long a files ∷ [])) = no_less (take (suc n) []) (0 + calls_of_long a files) in
        omega (arith, own_calls before mid calls, also, first)
    of_both (Some asked) also n =
        let first : 0 + calls_of_long a files + calls_through MOST_BYTES (files a.new_prices) ≤ sum (take (suc (suc n)) (calls_of_long a files ∷ calls_through MOST_BYTES (files a.new_prices) ∷ []))
        = no_less (take n []) (0 + calls_of_long a files + calls_through MOST_BYTES (files a.new_prices)) in
        omega (arith, own_calls before mid calls, also, first)

    pub both_asks : after ≤ mid + calls_of_new a.bounds (files a.new_prices) → AsksForFirst panels files before after a 2
    both_asks also = of_both a.bounds also 0

    of_all : (bounds : Option BoundsAsked) → after ≤ mid + calls_of_new bounds (files a.new_prices)
        → after ≤ before + sum (take (length (a.file ∷ new_files bounds a.new_prices)) (calls_of_each files (BYTES ∷ new_limits bounds) (a.file ∷ new_files bounds a.new_prices)))
    of_all None also = omega (arith, own_calls before mid calls, also)
    of_all (Some asked) also = omega (arith, own_calls before mid calls, also)

  module _ (between : Files) (long : List ℕ) (held : AreAll (files a.file) long) (few : length long ≤ BYTES) (same : between a.new_prices ≡ files a.new_prices) where
    none_beside : (known : Option (List ℕ)) (line : List ℕ) → IsKnownNewRefusal a known None line → ⊥
    none_beside None line refused = refused
    none_beside (Some bytes) line refused = refused

    faulty : AreRefused panels files a 1 → IsFaulty a long
    faulty (line, inr refused) = absurd (none_beside (files a.file) line refused)
    faulty (line, inl refused) = known (files a.file) refl refused
      where
        known : (found : Option (List ℕ)) → files a.file ≡ found → IsKnownLongRefusal a found line → IsFaulty a long
        known None is refused_so = absurd refused_so
        known (Some bytes) is (inl many) = absurd (omega (arith, ap (λ (bs : List ℕ). length bs) (held bytes is), few, many.many))
        known (Some bytes) is (inr fault) = (line, subst (λ (bs : List ℕ). HasFault a bs line) (sym (held bytes is)) fault)

    unrefused : AreRefused panels files a 0 → ⊥
    unrefused (line, refused) = begins_unrefused a (first_known panels files a 0) line refl refused

    pub both_turn : (before mid after : ℕ) (old new : Option Reads) → mid ≤ before + calls_through BYTES (files name) → AsksForNew a.bounds a.new_prices (between a.new_prices) mid after old new
        → (IsFaulty a long → AsksForNone mid after old new) → AreReadInTurn panels files before after a
    both_turn before mid after old new calls asks stops =
        let more = subst (λ (known : Option (List ℕ)). after ≤ mid + calls_of_new a.bounds known) same asks.calls in
        record { each_once = of_all before mid after calls a.bounds more; none_after_refused = in_turn more }
      where
        in_turn : after ≤ mid + calls_of_new a.bounds (files a.new_prices) → (n : ℕ) → AreRefused panels files a n → AsksForFirst panels files before after a n
        in_turn more zero none = absurd (unrefused none)
        in_turn more (suc zero) refused =
            let none = (stops (faulty refused)).calls in
            subst (λ (count : ℕ). AsksForFirst panels files before count a 1) (sym none) (long_asks before mid calls)
        in_turn more (suc (suc n)) refused = of_both before mid after calls a.bounds more n

    pub both_asked : (before mid after : Option Reads) (count later : ℕ) → AsksOnce before mid name → AsksForNew a.bounds a.new_prices (between a.new_prices) count later mid after
        → (IsFaulty a long → AsksForNone count later mid after) → AreAskedInTurn panels files before after a
    both_asked before mid after count later once asks stops = record {
      each_once = asks_then before mid after a.file (new_files a.bounds a.new_prices) (length (new_files a.bounds a.new_prices)) own asks.names;
      none_after_refused = in_turn;
    }
      where
        own : AsksOnce before mid a.file
        own = subst (λ (n : List ℕ). AsksOnce before mid n) of_file once

        in_turn : (n : ℕ) → AreRefused panels files a n → GrowsByFirst before after (files_of a) n
        in_turn zero none = absurd (unrefused none)
        in_turn (suc zero) refused =
            asks_then before mid after a.file (new_files a.bounds a.new_prices) 0 own (grows_by_none mid after (new_files a.bounds a.new_prices) (stops (faulty refused)).names)
        in_turn (suc (suc n)) refused =
            asks_then before mid after a.file (new_files a.bounds a.new_prices) (suc n) own
            (λ reads is. (let own_reads = asks.names reads is in (own_reads.0, own_reads.1, more_of a.bounds a.new_prices n own_reads.0 own_reads.2)))
