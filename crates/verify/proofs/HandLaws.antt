-- What is known at the next unit is held apart, and the other states are kept.
use Rattle.std.proofs.Common.{◌≡◌, ◌∙◌, ℕ, ◌<◌, length, length-set, true, refl, sym, ap, ap₂, Option, Some, None, Result, Ok, Err}
use Rattle.std.specs.Prelude.{pos, slice_set, is_none, Box}
use Rattle.std.specs.declared.alloc.Global.{Global}
use Rattle.std.proofs.lemmas.List.{set-set, set-get_or, get_or-set_same}
use Rattle.insn.specs.declared.insn.Insn.{Insn}
use Rattle.verify.specs.declared.error.VerifyError.{VerifyError}
use Rattle.verify.specs.declared.error.VerifyError.TheVariants.{At, Memory}
use Rattle.verify.specs.declared.state.AbsState.{AbsState}
use Rattle.verify.specs.Kept.{unboxed, AtHand}
use Rattle.verify.specs.Judgement.{KnownSoFar, reached_at, joined_with, along, followed, passed_at}
use Rattle.verify.specs.Passes.{Does, Comes}

pub none_of : (o : Option AbsState) → is_none o ≡ true → o ≡ None
none_of None e = refl
none_of (Some a) e = absurd cc

-- Taking out a state that is not there changes nothing.
pub nothing_taken : (kept : KnownSoFar) (unit : ℕ) → reached_at kept unit ≡ None → kept ≡ slice_set kept unit None
nothing_taken kept unit e = sym (ap (λ (o : Option AbsState). slice_set kept unit o) (sym e) ∙ set-get_or kept unit None)

-- A state that was taken out can be put back.
pub given_back : (reached kept : KnownSoFar) (unit : ℕ) (o : Option AbsState) → o ≡ reached_at reached unit → kept ≡ slice_set reached unit None → slice_set kept unit o ≡ reached
given_back reached kept unit o e f =
    ap₂ (λ (r : KnownSoFar) (p : Option AbsState). slice_set r unit p) f e ∙ (set-set reached unit None (reached_at reached unit) ∙ set-get_or reached unit None)

-- A state that was taken out can be put back joined.
pub comes_back : (old between : KnownSoFar) (unit : ℕ) (a b : AbsState) (kept : Option AbsState) → between ≡ slice_set old unit None → kept ≡ reached_at old unit → b ≡ joined_with kept a →
    slice_set between unit (Some b) ≡ along (pos unit, a) old
comes_back old between unit a b kept e f g =
    ap₂ (λ (r : KnownSoFar) (c : AbsState). slice_set r unit (Some c)) e (g ∙ ap (λ (o : Option AbsState). joined_with o a) f)
    ∙ set-set old unit None (Some (joined_with (reached_at old unit) a))

pub taken_next : (wanted : Result KnownSoFar VerifyError) (next : ℕ) (items kept : KnownSoFar) (hand : Option (Box AbsState Global)) → wanted ≡ Ok items → unboxed hand ≡ reached_at items next →
    kept ≡ slice_set items next None → Comes wanted next (Ok hand) kept
taken_next wanted next items kept hand e h rest = (items, e, record { here = h; rest = rest })

-- A state arrives at the next unit.
pub comes_next : (old kept : KnownSoFar) (next : ℕ) (a : AbsState) (b : Box AbsState Global) → next < length old → b.value ≡ joined_with (reached_at old next) a →
    kept ≡ slice_set old next None → AtHand (along (pos next, a) old) next (Some b) kept
comes_next old kept next a b lt e rest =
    let joined = Some (joined_with (reached_at old next) a) in
    record {
      here = ap (λ (c : AbsState). Some c) e ∙ sym (get_or-set_same old next joined None lt);
      rest = rest ∙ sym (set-set old next joined None);
    }

-- No path leads to the unit.
pub passes_none : (unit : ℕ) (o : Option Insn) (known : Option AbsState) (reached : KnownSoFar) → known ≡ None → passed_at unit o known reached ≡ Ok reached
passes_none unit None known reached e = refl
passes_none unit (Some i) None reached e = refl
passes_none unit (Some i) (Some a) reached e = absurd cc

pub passes_some : (unit : ℕ) (o : Option Insn) (i : Insn) (known : Option AbsState) (a : AbsState) (reached kept : KnownSoFar) → o ≡ Some i → known ≡ Some a → kept ≡ slice_set reached unit None →
    followed unit i a kept ≡ passed_at unit o known reached
passes_some unit o i known a reached kept e f g =
    ap (followed unit i a) g ∙ sym (ap₂ (λ (p : Option Insn) (k : Option AbsState). passed_at unit p k reached) e f)

-- Both forms return a fault in the same way.
pub does_fault : (wanted : Result KnownSoFar VerifyError) (next : ℕ) (fault : VerifyError) (kept : KnownSoFar) → Comes wanted next (Err fault) kept → Does wanted (Err fault) kept
does_fault wanted next Memory kept h = h
does_fault wanted next (At reason unit) kept h = h

pub comes_fault : (wanted : Result KnownSoFar VerifyError) (next : ℕ) (fault : VerifyError) (kept : KnownSoFar) → Does wanted (Err fault) kept → Comes wanted next (Err fault) kept
comes_fault wanted next Memory kept h = h
comes_fault wanted next (At reason unit) kept h = h

-- The number of units is unchanged.
pub length-at_hand : (reached kept : KnownSoFar) (unit : ℕ) (hand : Option (Box AbsState Global)) → AtHand reached unit hand kept → length kept ≡ length reached
length-at_hand reached kept unit hand h = ap length h.rest ∙ length-set reached unit None
