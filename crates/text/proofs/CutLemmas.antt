-- Lemmas about a text that begins with a part without stops.
use Rattle.std.proofs.Common.{◌≡◌, ℕ, suc, Bool, true, false, List, [], ◌∷◌, ◌++◌, length, take, drop, refl, ap, ◌∙◌}
use Rattle.std.specs.Prelude.{not}
use Rattle.std.specs.List.{list_all}
use Rattle.text.specs.declared.stop.Stop.{Stop}
use Rattle.text.specs.Stop.{is_stop, feed}
use Rattle.text.specs.Parts.{until, before, from, pieces, lines_of}
use Rattle.text.proofs.PartsLemmas.{pieces_is, line_first}
use Rattle.std.proofs.lemmas.Bool.{not-true, and_parts}
use Rattle.std.proofs.Math.Seq.{take-length, drop-length}

-- The text contains no stop.
abbrev pub Lacks : Stop → List ℕ → Type 0
Lacks stop bytes = list_all (λ c. not (is_stop stop c)) bytes ≡ true

-- The number of bytes before the first stop is the length of the part without stops.
pub until-append : (stop : Stop) (xs : List ℕ) (c : ℕ) (ys : List ℕ) → Lacks stop xs → is_stop stop c ≡ true → until stop (xs ++ c ∷ ys) ≡ length xs
until-append stop [] c ys h k = rw k refl
until-append stop (x ∷ xs) c ys h k = rw (not-true (is_stop stop x) (and_parts (not (is_stop stop x)) _ h).0) (ap suc (until-append stop xs c ys (and_parts (not (is_stop stop x)) _ h).1 k))

pub until-all : (stop : Stop) (xs : List ℕ) → Lacks stop xs → until stop xs ≡ length xs
until-all stop [] h = refl
until-all stop (x ∷ xs) h = rw (not-true (is_stop stop x) (and_parts (not (is_stop stop x)) _ h).0) (ap suc (until-all stop xs (and_parts (not (is_stop stop x)) _ h).1))

pub take_front : (xs ys : List ℕ) → take (length xs) (xs ++ ys) ≡ xs
take_front [] ys = refl
take_front (x ∷ xs) ys = ap (λ l. x ∷ l) (take_front xs ys)

pub drop_front : (xs ys : List ℕ) → drop (length xs) (xs ++ ys) ≡ ys
drop_front [] ys = refl
drop_front (x ∷ xs) ys = drop_front xs ys

-- A text without stops is cut at its end. Otherwise it is cut at the stop after the part without stops.
pub before-append : (stop : Stop) (xs : List ℕ) (c : ℕ) (ys : List ℕ) → Lacks stop xs → is_stop stop c ≡ true → before stop (xs ++ c ∷ ys) ≡ xs
before-append stop xs c ys h k = rw (until-append stop xs c ys h k) (take_front xs (c ∷ ys))

pub from-append : (stop : Stop) (xs : List ℕ) (c : ℕ) (ys : List ℕ) → Lacks stop xs → is_stop stop c ≡ true → from stop (xs ++ c ∷ ys) ≡ c ∷ ys
from-append stop xs c ys h k = rw (until-append stop xs c ys h k) (drop_front xs (c ∷ ys))

pub before-all : (stop : Stop) (xs : List ℕ) → Lacks stop xs → before stop xs ≡ xs
before-all stop xs h = rw (until-all stop xs h) (take-length xs)

pub from-all : (stop : Stop) (xs : List ℕ) → Lacks stop xs → from stop xs ≡ []
from-all stop xs h = rw (until-all stop xs h) (drop-length xs)

-- The pieces of a part without stops, a stop and another text.
pub pieces-append : (stop : Stop) (xs : List ℕ) (c : ℕ) (ys : List ℕ) → Lacks stop xs → is_stop stop c ≡ true → pieces stop (xs ++ c ∷ ys) ≡ xs ∷ pieces stop ys
pieces-append stop xs c ys h k = pieces_is stop (xs ++ c ∷ ys) ∙ rw (before-append stop xs c ys h k, from-append stop xs c ys h k) refl

pub pieces-all : (stop : Stop) (xs : List ℕ) → Lacks stop xs → pieces stop xs ≡ xs ∷ []
pieces-all stop xs h = pieces_is stop xs ∙ rw (before-all stop xs h, from-all stop xs h) refl

-- The lines of a line and the lines after it.
pub lines_of-append : (xs ys : List ℕ) → Lacks feed xs → lines_of (xs ++ 10 ∷ ys) ≡ xs ∷ lines_of ys
lines_of-append xs ys h = line_first (xs ++ 10 ∷ ys) xs ys (pieces-append feed xs 10 ys h refl)
