-- Texts that consist of several parts.
use Rattle.std.proofs.Common.{ℕ, ◌≡◌, Bool, List, [], ◌∷◌, ◌++◌, Option, Some, refl, ap, ◌∙◌, append_assoc}
use Rattle.std.specs.Prelude.{Result, Ok, Err, OnOk, is_ok, if◌then◌else◌, codes}
use Rattle.std.specs.Fmt.{decimal}
use Rattle.std.specs.List.{flat_map}
use Rattle.label.specs.Labels.{on, others}
use Rattle.book.specs.declared.conditions.Conditions.{Conditions}
use Rattle.book.specs.Table.{MessageTable}
use Rattle.book.specs.Conditions.{judged}
use Rattle.book.specs.Decisions.{decision_of}
use Rattle.book.specs.Explained.{yes_no, enough_words, few_words, enough_part, few_part, head_line, list_lines, decision_line, lieutenant_lines, bound_line, alike_line, obedience_line, condition_lines, explained, dotted, list_words}

-- A push that succeeded.
pub pushed : {E : Type 0} (r : Result (Unit {0}) E) (new old more : List ℕ) → new ≡ (if is_ok r then old ++ more else old) → OnOk r (new ≡ old ++ more)
pushed (Ok u) new old more e = e
pushed (Err x) new old more e = tt

-- Three parts after a text.
regroup : (a b c d : List ℕ) → ((a ++ b) ++ c) ++ d ≡ a ++ ((b ++ c) ++ d)
regroup a b c d = ap (λ x. x ++ d) (append_assoc a b c) ∙ append_assoc a (b ++ c) d

-- The lines about a lieutenant.
pub lieutenant_whole : (t : MessageTable) (traitors : List ℕ) (p : ℕ) (old first lists new : List ℕ) (m : ℕ) (w : List ℕ) (named : Bool) (d : ℕ)
    → first ≡ old ++ head_line p → lists ≡ first ++ list_lines t m w p → m ≡ t.bound → w ≡ t.commander ∷ [] → named ≡ on traitors p → d ≡ decision_of t p
    → new ≡ lists ++ decision_line p named d → new ≡ old ++ lieutenant_lines t traitors p
unfolding lieutenant_lines
lieutenant_whole t traitors p old first lists new m w named d ef el em ew en ed e =
    rw (e, el, ef, em, ew, en, ed) (regroup old (head_line p) (list_lines t t.bound (t.commander ∷ []) p) (decision_line p (on traitors p) (decision_of t p)))

-- The lines of the conditions.
pub conditions_whole : (t : MessageTable) (met : Conditions) (old first second new : List ℕ)
    → first ≡ old ++ bound_line t met → second ≡ first ++ alike_line met.alike → new ≡ second ++ obedience_line met.obedience → new ≡ old ++ condition_lines t met
unfolding condition_lines
conditions_whole t met old first second new ef es e = rw (e, es, ef) (regroup old (bound_line t met) (alike_line met.alike) (obedience_line met.obedience))

-- All lines.
pub explained_whole : (t : MessageTable) (traitors : List ℕ) (j : ℕ) (met : Conditions) (lines new : List ℕ) → j ≡ t.generals
    → lines ≡ flat_map (lieutenant_lines t traitors) (others j (t.commander ∷ [])) → met ≡ judged t traitors
    → new ≡ lines ++ condition_lines t met → new ≡ explained t traitors
unfolding explained
explained_whole t traitors j met lines new all el em e = rw (e, el, em, all) refl

-- The parts of the bound's line, as they are printed.
pub enough_is : (t : MessageTable) (met : Conditions) (text holds enough : List ℕ) (n m : ℕ) → holds ≡ yes_no met.bound → enough ≡ enough_words met.enough → n ≡ t.generals → m ≡ t.bound
    → text ≡ (codes "bound " ++ holds ++ codes ": " ++ decimal n ++ codes " generals, " ++ enough ++ decimal m) → text ≡ enough_part t met
enough_is t met text holds enough n m eh ee en em e = rw (e, eh, ee, en, em) refl

pub few_is : (t : MessageTable) (met : Conditions) (text few : List ℕ) (m : ℕ) → few ≡ few_words met.few → m ≡ t.bound
    → text ≡ (codes "; " ++ decimal met.named ++ codes " named as traitors, " ++ few ++ decimal m ++ codes "\n") → text ≡ few_part t met
few_is t met text few m ef em e = rw (e, ef, em) refl

-- The line of a label for which an order was received.
pub heard_whole : (old new front parts words w : List ℕ) (last said order : ℕ) (told : Option ℕ) → told ≡ Some said → front ++ decimal last ≡ dotted w
    → new ≡ old ++ (front ++ (decimal last ++ (codes ": received " ++ (decimal said ++ (parts ++ (codes ": " ++ (words ++ (decimal order ++ codes "\n"))))))))
    → new ≡ old ++ list_words w told parts (words ++ decimal order)
heard_whole old new front parts words w last said order told so is e = rw (so, ← is) (simp append_assoc e)
