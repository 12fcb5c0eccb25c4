-- The first line of a text ends at its first line feed.
use Rattle.std.proofs.Common.{◌≡◌, ℕ, zero, suc, ◌+◌, ◌-◌, ◌<◌, arith, List, [], ◌∷◌, length, take, drop, false, refl, ap, ◌∙◌}
use Rattle.std.specs.Prelude.{◌==◌}
use Rattle.std.proofs.lemmas.Bool.{false_from_ne_true}
use Rattle.std.proofs.lemmas.List.{take_all}
use Rattle.memchr.specs.Find.{Passes, Nowhere, is_byte}
use Rattle.text.specs.Stop.{feed}
use Rattle.text.specs.Parts.{pieces, onto_first}
use Rattle.trace.proofs.WrittenLemmas.{drop-length}

-- The text has no line feed.
pub no_feed : (t : List ℕ) → Nowhere (Passes (is_byte 10) t) 0 (length t) → pieces feed t ≡ t ∷ []
no_feed [] h = refl
no_feed (c ∷ cs) h =
    let other : (c == 10) ≡ false = false_from_ne_true (c == 10) (h 0 (omega arith) (omega arith)) in
    rw other (ap (onto_first c) (no_feed cs (λ j low high. h (suc j) (omega arith) (omega arith))))

-- The first line feed is at this index.
first_feed : (t : List ℕ) (k : ℕ) → k < length t → Nowhere (Passes (is_byte 10) t) 0 k → Passes (is_byte 10) t k → pieces feed t ≡ take k t ∷ pieces feed (drop (k + 1) t)
first_feed [] k lt before is = absurd (omega arith)
first_feed (c ∷ cs) zero lt before is = rw is refl
first_feed (c ∷ cs) (suc k) lt before is =
    let other : (c == 10) ≡ false = false_from_ne_true (c == 10) (before 0 (omega arith) (omega arith)) in
    let place : suc (k + 1) ≡ suc k + 1 = omega arith in
    rw other (ap (onto_first c) (first_feed cs k (omega arith) (λ j low high. before (suc j) (omega arith) (omega arith)) is) ∙ ap (λ (n : ℕ). (c ∷ take k cs) ∷ pieces feed (drop n (c ∷ cs))) place)

-- The remaining text, as the code computes it.
pub line_and_rest : (t : List ℕ) (k : ℕ) → k < length t → Nowhere (Passes (is_byte 10) t) 0 k → Passes (is_byte 10) t k → pieces feed t ≡ take k t ∷ pieces feed (take (length t - (k + 1)) (drop (k + 1) t))
line_and_rest t k lt before is =
    let long = drop-length (k + 1) t (omega arith) in
    rw (take_all (length t - (k + 1)) (drop (k + 1) t) (omega arith)) (first_feed t k lt before is)
