-- Lemmas about the first line in which two texts differ: there is none exactly if they are equal.
use Rattle.std.proofs.Common.{◌≡◌, ◌↔◌, ℕ, suc, ◌-◌, ◌<◌, ◌≤◌, Bool, true, false, cond, List, [], ◌∷◌, length, drop, Option, Some, None, refl, arith}
use Rattle.std.specs.Prelude.{◌==◌, if◌then◌else◌}
use Rattle.std.proofs.lemmas.Bool.{eqb-true, eq-eqb}
use Rattle.std.proofs.lemmas.List.{length-drop}
use Rattle.rows.specs.declared.comparison.ComparisonResult.TheVariants.{AsStored}
use Rattle.rows.specs.Comparing.{parting, outcome_by}

both : (c d : ℕ) (cs ds : List ℕ) → c ≡ d → cs ≡ ds → c ∷ cs ≡ d ∷ ds
both c d cs ds e f = rw (e, f) refl

parted : (b : Bool) (c d line next : ℕ) (cs ds : List ℕ) → (b ≡ true → c ≡ d) → (parting next cs ds ≡ None → cs ≡ ds)
    → cond b (parting next cs ds) (Some line) ≡ None → c ∷ cs ≡ d ∷ ds
parted true c d line next cs ds e f h = both c d cs ds (e refl) (f h)
parted false c d line next cs ds e f h = absurd cc

same : (line : ℕ) (told stored : List ℕ) → parting line told stored ≡ None → told ≡ stored
same line [] [] h = refl
same line [] (d ∷ ds) h = absurd cc
same line (c ∷ cs) [] h = absurd cc
same line (c ∷ cs) (d ∷ ds) h = parted (c == d) c d line (if c == 10 then suc line else line) cs ds (eqb-true c d) (same (if c == 10 then suc line else line) cs ds) h

nowhere : (line : ℕ) (text : List ℕ) → parting line text text ≡ None
nowhere line [] = refl
nowhere line (c ∷ cs) = rw (eq-eqb c c refl) (nowhere (if c == 10 then suc line else line) cs)

nowhere_between : (line : ℕ) (told stored : List ℕ) → told ≡ stored → parting line told stored ≡ None
nowhere_between line told stored e = rw (e) (nowhere line stored)

by : (told stored : List ℕ) (line : Option ℕ) → parting 1 told stored ≡ line → outcome_by line ≡ AsStored ↔ told ≡ stored
by told stored None e = ((λ h. same 1 told stored e), (λ h. refl))
by told stored (Some line) e = ((λ h. absurd cc), (λ h. let n : parting 1 told stored ≡ None = nowhere_between 1 told stored h in absurd cc))

-- The comparison returns `AsStored` exactly if the two texts are equal.
pub as_stored : (told stored : List ℕ) (found line : Option ℕ) → found ≡ parting 1 told stored → found ≡ line → outcome_by line ≡ AsStored ↔ told ≡ stored
as_stored told stored found line e f = by told stored line (rw (← e) f)

ended : (line : ℕ) (told stored : List ℕ) → length stored < 1 → 1 ≤ length told → parting line told stored ≡ Some line
ended line [] stored lt le = absurd (omega (arith, le))
ended line (c ∷ cs) [] lt le = refl
ended line (c ∷ cs) (d ∷ ds) lt le = absurd (omega (arith, lt))

-- The stored text ends before the other one.
pub ends_before : (line at : ℕ) (told stored rest : List ℕ) → parting line (drop at told) rest ≡ parting 1 told stored → length rest < 1 → at < length told
    → Some line ≡ parting 1 told stored
ends_before line at told stored rest e lt le =
    let some : 1 ≤ length (drop at told) = (let l : length (drop at told) ≡ length told - at = length-drop at told in omega (arith, l, le)) in
    rw (← e, ended line (drop at told) rest lt some) refl
