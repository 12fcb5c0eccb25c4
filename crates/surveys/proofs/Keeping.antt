-- If the bound of a campaign holds, its verdict is sound.
use Rattle.std.proofs.Common.{◌≡◌, ◌≢◌, Bool, true, false, [], ◌∷◌, refl, Option, None, Some}
use Rattle.std.specs.Prelude.{◌&&◌, not}
use Rattle.world.specs.declared.verdict.Verdict.{Verdict}
use Rattle.world.specs.Promises.{IsWellUnderBound}
use Rattle.surveys.specs.Laws.{KeptAreSound}
use Rattle.surveys.specs.Sums.{is_denied, is_sound}

not_denied : (a : Option Bool) → a ≢ Some false → is_denied a ≡ false
not_denied None h = refl
not_denied (Some true) h = refl
not_denied (Some false) h = absurd (h refl)

kept_one : (b : Bool) (v : Verdict) → v.bound ≡ b → IsWellUnderBound v → (b && not (is_sound v)) ≡ false
kept_one false v e h = refl
kept_one true v e h = let well = h e in rw (well.0, not_denied v.obeyed well.1) refl

pub kept_law : KeptAreSound
kept_law f [] [] h = refl
kept_law f [] (x ∷ found) h = absurd h
kept_law f (seed ∷ seeds) [] h = absurd h
kept_law f (seed ∷ seeds) (x ∷ found) h = rw (kept_one x.verdict.bound x.verdict refl h.0.well, kept_law f seeds found h.1) refl
