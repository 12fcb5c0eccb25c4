-- What an audit answers, and the texts of signed replays.
use Rattle.std.proofs.Common.{◌≡◌, ℕ, true, false, List, sym, ap, ◌∙◌, refl}
use Rattle.std.specs.Prelude.{slice_get}
use Rattle.round.specs.Scenario.{Scenario}
use Rattle.world.specs.Chronicle.{Chronicle}
use Rattle.trace.specs.Audit.{IsFirstDifference}
use Rattle.trace.specs.SignedAudit.{IsSoundSignedText, is_third_version, signed_chronicle_told}
use Rattle.trace.specs.SignedText.{signed_lines, signed_text}

-- A signed chronicle's text names its version.
third_known : (c : Chronicle) → is_third_version (signed_text c) ≡ true
unfolding is_third_version signed_text signed_lines
third_known c = refl

-- A text of another version is not sound.
pub refused_version : (s : Scenario) (t bytes : List ℕ) → bytes ≡ t → is_third_version bytes ≡ false → IsSoundSignedText s t → ⊥
refused_version s t bytes b h sound =
    let known : is_third_version bytes ≡ true = ap is_third_version (b ∙ sound) ∙ third_known (signed_chronicle_told s t) in
    absurd cc

-- A text that differs from the chronicle of its replay is not sound.
pub refused_different : (s : Scenario) (t bytes : List ℕ) (c : Chronicle) (place : ℕ) → bytes ≡ t → c ≡ signed_chronicle_told s bytes → IsFirstDifference bytes (signed_text c) place → IsSoundSignedText s t → ⊥
refused_different s t bytes c place b e d sound =
    let there : bytes ≡ signed_text c = b ∙ (sound ∙ ap signed_text (ap (signed_chronicle_told s) (sym b) ∙ sym e)) in
    d.differs (ap (λ u. slice_get u place) there)

-- A text that is equal to the chronicle of its replay is sound.
pub found_sound : (s : Scenario) (t bytes : List ℕ) (c : Chronicle) → bytes ≡ t → c ≡ signed_chronicle_told s bytes → bytes ≡ signed_text c → IsSoundSignedText s t
found_sound s t bytes c b e same = sym b ∙ (same ∙ ap signed_text (e ∙ ap (signed_chronicle_told s) b))
