-- The line of the verifier's explanation that says why, found while the lines are read one after another.
use Rattle.std.proofs.Common.{◌≡◌, ◌∙◌, ℕ, Bool, true, false, List, [], ◌∷◌, ◌++◌, reverse, Option, None, Some, ap, refl, sym}
use Rattle.std.specs.Prelude.{cond, find}
use Rattle.std.specs.Option.{option_or}
use Rattle.std.proofs.lemmas.List.{reverse-append}
use Rattle.cli_answers.specs.Refusals.{is_why, why}

or_assoc : {T : Type 0} (a b c : Option T) → option_or (option_or a b) c ≡ option_or a (option_or b c)
or_assoc None b c = refl
or_assoc (Some x) b c = refl

-- Returns the line if it says why, else None.
abbrev own : Bool → List ℕ → Option (List ℕ)
own says line = cond says (Some line) None

found_on : (says : Bool) (line : List ℕ) (a b : Option (List ℕ)) → cond says (Some line) (option_or a b) ≡ option_or (cond says (Some line) a) b
found_on true line a b = refl
found_on false line a b = refl

find_on : (xs ys : List (List ℕ)) → find is_why (xs ++ ys) ≡ option_or (find is_why xs) (find is_why ys)
find_on [] ys = refl
find_on (x ∷ xs) ys = ap (λ (o : Option (List ℕ)). cond (is_why x) (Some x) o) (find_on xs ys) ∙ found_on (is_why x) x (find is_why xs) (find is_why ys)

why_more : (line : List ℕ) (behind : List (List ℕ)) → why (line ∷ behind) ≡ option_or (why behind) (own (is_why line) line)
why_more line behind = ap (λ (ls : List (List ℕ)). find is_why ls) (reverse-append (line ∷ []) behind) ∙ find_on (reverse behind) (line ∷ [])

-- Proves the result after one more line, which says why or does not.
line_more : (line : List ℕ) (behind lines all : List (List ℕ)) (last : Option (List ℕ)) → lines ≡ line ∷ behind → option_or (why lines) last ≡ why all
    → option_or (why behind) (option_or (own (is_why line) line) last) ≡ why all
line_more line behind lines all last e h =
    sym (or_assoc (why behind) (own (is_why line) line) last) ∙ (ap (λ (o : Option (List ℕ)). option_or o last) (sym (ap why e ∙ why_more line behind)) ∙ h)

pub line_taken : (line : List ℕ) (behind lines all : List (List ℕ)) (last : Option (List ℕ)) → is_why line ≡ true → lines ≡ line ∷ behind → option_or (why lines) last ≡ why all
    → option_or (why behind) (Some line) ≡ why all
line_taken line behind lines all last says e h = ap (λ (b : Bool). option_or (why behind) (option_or (own b line) last)) (sym says) ∙ line_more line behind lines all last e h

pub line_passed : (line : List ℕ) (behind lines all : List (List ℕ)) (last : Option (List ℕ)) → is_why line ≡ false → lines ≡ line ∷ behind → option_or (why lines) last ≡ why all
    → option_or (why behind) last ≡ why all
line_passed line behind lines all last says e h = ap (λ (b : Bool). option_or (why behind) (option_or (own b line) last)) (sym says) ∙ line_more line behind lines all last e h
