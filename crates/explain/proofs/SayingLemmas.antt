-- What a helper accepts, in the parts of the text.
use Rattle.std.proofs.Common.{◌≡◌, ◌∙◌, ℕ, List, ◌++◌, ap, append_assoc}
use Rattle.std.specs.Prelude.{codes, decimal}
use Rattle.semantics.specs.declared.request.Helper.{Helper}
use Rattle.explain.specs.Names.{helper_name}
use Rattle.explain.specs.Sentences.{above_text, pointer_text}

two_parts : (out one last a name b : List ℕ) → name ≡ a → one ≡ out ++ name → last ≡ one ++ b → last ≡ out ++ (a ++ b)
two_parts out one last a name b same front behind =
    behind ∙ (ap (λ (l : List ℕ). l ++ b) front ∙ (append_assoc out name b ∙ ap (λ (l : List ℕ). out ++ (l ++ b)) same))

pub pointer_so : (out one last name : List ℕ) (called : Helper) → name ≡ helper_name called → one ≡ out ++ name → last ≡ one ++ codes " accepts only a pointer here" → last ≡ out ++ pointer_text called
unfolding pointer_text
pointer_so out one last name called same front behind = two_parts out one last (helper_name called) name (codes " accepts only a pointer here") same front behind

pub above_so : (out one last name : List ℕ) (called : Helper) (most : ℕ) → name ≡ helper_name called → one ≡ out ++ name →
    last ≡ one ++ (codes " accepts numbers up to " ++ decimal most ++ codes " here") → last ≡ out ++ above_text called most
unfolding above_text
above_so out one last name called most same front behind =
    two_parts out one last (helper_name called) name (codes " accepts numbers up to " ++ decimal most ++ codes " here") same front behind

pub three_parts : (out one two last a b c : List ℕ) → one ≡ out ++ a → two ≡ one ++ b → last ≡ two ++ c → last ≡ out ++ ((a ++ b) ++ c)
three_parts out one two last a b c first second third =
    third ∙ (ap (λ (l : List ℕ). l ++ c) (second ∙ (ap (λ (l : List ℕ). l ++ b) first ∙ append_assoc out a b)) ∙ append_assoc out (a ++ b) c)
