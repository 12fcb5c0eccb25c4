-- The words of a line that come after the last word of a shape.
use Rattle.std.proofs.Common.{◌≡◌, ℕ, zero, suc, ◌≤◌, arith, Bool, true, false, List, [], ◌∷◌, length, drop, map, Option, None, Some, Bor, refl, ◌∙◌}
use Rattle.std.specs.Prelude.{is_some, not}
use Rattle.serde_json.specs.Data.{Members}
use Rattle.text.specs.Parts.{left}
use Rattle.text.specs.Stop.{space}
use Rattle.text.proofs.PartsLemmas.{pieces_is}
use Rattle.cli_answers.specs.Shaped.{found, told_by}

no_parts : {A B : Type 0} (f : A → B) (i : ℕ) (xs : List A) → length xs ≤ i → map f (drop i xs) ≡ []
no_parts f zero [] l = refl
no_parts f zero (x ∷ xs) l = absurd (omega arith)
no_parts f (suc i) [] l = refl
no_parts f (suc i) (x ∷ xs) l = no_parts f i xs (omega arith)

none_left : (rest : Option (Bor (List ℕ))) (b : Bool) (ms : Members) → is_some rest ≡ not b → found b ms ≡ told_by [] (left space rest) ms
none_left None true ms e = refl
none_left None false ms e = absurd (let h = e in cc)
none_left (Some r) true ms e = absurd (let h = e in cc)
none_left (Some r) false ms e = rw (pieces_is space r.now) refl

pub all_fit : {A : Type 0} (f : A → List ℕ × List ℕ) (i : ℕ) (parts : List A) (rest : Option (Bor (List ℕ))) (b : Bool) (ms : Members) (total : Option Members) → length parts ≤ i → is_some rest ≡ not b
    → told_by (map f (drop i parts)) (left space rest) ms ≡ total → found b ms ≡ total
all_fit f i parts rest b ms total l e so_far = none_left rest b ms e ∙ rw (no_parts f i parts l) at so_far
