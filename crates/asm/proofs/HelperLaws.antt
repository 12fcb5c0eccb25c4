-- The helpers' names.
use Rattle.std.proofs.Common.{◌≡◌, ℕ, ℤ, pos, zero, suc, ◌+◌, Bool, true, false, cond, List, [], ◌∷◌, Option, Some, None, refl, sym, ap, ◌∙◌, arith}
use Rattle.std.specs.Prelude.{slice_get, ◌&&◌, not}
use Rattle.std.proofs.lemmas.Bool.{and_parts, not-true}
use Rattle.std.specs.Str.{bytes_eq}
use Rattle.std.proofs.lemmas.Slice.Eq.{bytes_eq-Decides}
use Rattle.text.specs.Options.{◌>>=◌}
use Rattle.asm.specs.Helper.{helpers, place_in, helper_of}
use Rattle.asm.specs.Laws.{HelpersAreNumbered}

-- The position of a word among names, counted from n.
abbrev Stands : List ℕ → ℕ → List (List ℕ) → ℕ → Type 0
Stands word n names m = (k : ℕ) × (slice_get names k ≡ Some word) × (m ≡ n + k)

first_or : (b : Bool) (word name : List ℕ) (n m : ℕ) (names : List (List ℕ)) → (b ≡ true → word ≡ name) → (place_in word (n + 1) names ≡ Some m → Stands word (n + 1) names m)
    → cond b (Some n) (place_in word (n + 1) names) ≡ Some m → Stands word n (name ∷ names) m
first_or true word name n m names same ih e = let here : n ≡ m = cc in (0, ap Some (sym (same refl)), omega arith)
first_or false word name n m names same ih e = let later = ih e in (suc later.0, later.1, omega (arith, later.2))

placed : (word : List ℕ) (names : List (List ℕ)) (n m : ℕ) → place_in word n names ≡ Some m → Stands word n names m
placed word [] n m e = absurd cc
placed word (name ∷ names) n m e = first_or (bytes_eq word name) word name n m names (bytes_eq-Decides word name).0 (placed word names (n + 1) m) e

numbered : (o : Option ℕ) (z : ℤ) → (o >>= λ n. Some (pos n)) ≡ Some z → (n : ℕ) × (o ≡ Some n) × (z ≡ pos n)
numbered None z e = absurd cc
numbered (Some n) z e = (n, refl, cc)

helper_read : (word : List ℕ) (z : ℤ) → helper_of word ≡ Some z → (k : ℕ) × (slice_get helpers k ≡ Some word) × (z ≡ pos (k + 1))
unfolding helper_of
helper_read word z e =
    let n = numbered (place_in word 1 helpers) z e in
    let at = placed word helpers 1 n.0 n.1 in
    let one : n.0 ≡ at.0 + 1 = omega (arith, at.2) in
    (at.0, at.1, n.2 ∙ ap pos one)

abbrev some : List ℕ → Option (List ℕ)
some word = Some word

is_word : (a b : List ℕ) → some a ≡ some b → a ≡ b
is_word a b e = cc

-- No two of the names are the same.
abbrev lack : List ℕ → List (List ℕ) → Bool
lack word [] = true
lack word (name ∷ names) = not (bytes_eq name word) && lack word names

abbrev are_distinct : List (List ℕ) → Bool
are_distinct [] = true
are_distinct (name ∷ names) = lack name names && are_distinct names

other_at : (word : List ℕ) (names : List (List ℕ)) (k : ℕ) (later : List ℕ) → lack word names ≡ true → slice_get names k ≡ Some later → bytes_eq later word ≡ false
other_at word [] k later l e = absurd cc
other_at word (name ∷ names) zero later l e =
    let parts = and_parts (not (bytes_eq name word)) (lack word names) l in
    ap (λ (w : List ℕ). bytes_eq w word) (sym (is_word name later e)) ∙ not-true (bytes_eq name word) parts.0
other_at word (name ∷ names) (suc k) later l e =
    let parts = and_parts (not (bytes_eq name word)) (lack word names) l in
    other_at word names k later parts.1 e

-- So a name is found where it is.
stands : (names : List (List ℕ)) (n k : ℕ) (word : List ℕ) → are_distinct names ≡ true → slice_get names k ≡ Some word → place_in word n names ≡ Some (n + k)
stands [] n k word d e = absurd cc
stands (name ∷ names) n zero word d e =
    ap (λ (b : Bool). cond b (Some n) (place_in word (n + 1) names)) ((bytes_eq-Decides word name).1 (sym (is_word name word e))) ∙ ap Some (omega arith)
stands (name ∷ names) n (suc k) word d e =
    let parts = and_parts (lack name names) (are_distinct names) d in
    ap (λ (b : Bool). cond b (Some n) (place_in word (n + 1) names)) (other_at name names k word parts.0 e)
    ∙ stands names (n + 1) k word parts.1 e ∙ ap Some (omega arith)

helper_written : (k : ℕ) (word : List ℕ) → slice_get helpers k ≡ Some word → helper_of word ≡ Some (pos (k + 1))
unfolding helper_of
helper_written k word e =
    ap (λ (o : Option ℕ). o >>= λ n. Some (pos n)) (stands helpers 1 k word refl e) ∙ ap (λ (n : ℕ). Some (pos n)) (omega arith)

pub helpers_numbered : HelpersAreNumbered
helpers_numbered = record { read = helper_read; written = helper_written }
