-- The lines of a table that is written, and what is read from them.
use Rattle.std.proofs.Common.{ℕ, ◌^◌, ◌<◌, ◌≡◌, Bool, true, false, not, List, [], ◌∷◌, ◌++◌, refl, sym, ap, ◌∙◌, arith, append_assoc, append-nil, Option, Some}
use Rattle.std.specs.Prelude.{codes, if◌then◌else◌}
use Rattle.std.specs.Fmt.{decimal}
use Rattle.combine.specs.declared.campaign_rule.Rule.{Rule}
use Rattle.combine.specs.Names.{is_default}
use Rattle.combine.specs.Rule.{rule_name}
use Rattle.combine.proofs.RuleLaws.{names_law}
use Rattle.text.specs.Number.{decimal_of}
use Rattle.text.specs.Options.{◌>>=◌}
use Rattle.text.specs.Stop.{space, feed, is_stop}
use Rattle.text.specs.Parts.{pieces}
use Rattle.text.proofs.BytesLemmas.{all-append}
use Rattle.text.proofs.CutLemmas.{Lacks, pieces-append, pieces-all}
use Rattle.text.proofs.DecimalLemmas.{decimal_of-decimal}
use Rattle.book.specs.declared.message.Message.{Message}
use Rattle.book.specs.Explained.{dotted}
use Rattle.book.specs.Grammar.{head_of, head_parts, rule_parts}
use Rattle.book.proofs.RuleNames.{name_lacks_feed, name_lacks_space}
use Rattle.book.proofs.FormLemmas.{AreFew, digits_lack, dotted_lack, no_feed, no_space, tell}
use Rattle.book.specs.Written.{rule_words}

-- The line of a message, without its line feed.
abbrev pub tell_of : Message → List ℕ
tell_of x = tell x.label x.receiver x.order

-- It contains no line feed.
pub tell_lacks : (w : List ℕ) (p v : ℕ) → AreFew w → p < 13 → v < 2 ^ 32 → Lacks feed (tell w p v)
tell_lacks w p v few lp lv =
    let T : ℕ → Bool = λ c. not (is_stop feed c) in
    let first : p < 2 ^ 64 = omega arith in
    let second : v < 2 ^ 64 = omega arith in
    all-append T (codes "tell " ++ dotted w ++ codes " " ++ decimal p ++ codes " ") (decimal v)
    (all-append T (codes "tell " ++ dotted w ++ codes " " ++ decimal p) (codes " ")
    (all-append T (codes "tell " ++ dotted w ++ codes " ") (decimal p)
    (all-append T (codes "tell " ++ dotted w) (codes " ") (all-append T (codes "tell ") (dotted w) refl (dotted_lack feed no_feed refl w few)) refl)
    (digits_lack feed no_feed p first)) refl) (digits_lack feed no_feed v second)

-- The first line, without its line feed.
abbrev pub head : ℕ → ℕ → ℕ → Rule → List ℕ
head n m c rule = codes "generals " ++ decimal n ++ codes " bound " ++ decimal m ++ codes " commander " ++ decimal c ++ rule_words rule

-- Its beginning, up to the commander's number, and the words from there on.
front_parted : (n m : ℕ) (rest : List ℕ) → codes "generals " ++ decimal n ++ codes " bound " ++ decimal m ++ codes " commander " ++ rest ≡ codes "generals" ++ 32 ∷ (decimal n ++ 32 ∷ (codes "bound" ++ 32 ∷ (decimal m ++ 32 ∷ (codes "commander" ++ 32 ∷ rest))))
front_parted n m rest = simp append_assoc

pieces_front : (n m : ℕ) (rest : List ℕ) → n < 2 ^ 64 → m < 2 ^ 64 → pieces space (codes "generals " ++ decimal n ++ codes " bound " ++ decimal m ++ codes " commander " ++ rest) ≡ codes "generals" ∷ decimal n ∷ codes "bound" ∷ decimal m ∷ codes "commander" ∷ pieces space rest
pieces_front n m rest ln lm =
    ap (pieces space) (front_parted n m rest)
    ∙ (pieces-append space (codes "generals") 32 (decimal n ++ 32 ∷ (codes "bound" ++ 32 ∷ (decimal m ++ 32 ∷ (codes "commander" ++ 32 ∷ rest)))) refl refl
    ∙ ap (λ ps. codes "generals" ∷ ps)
    (pieces-append space (decimal n) 32 (codes "bound" ++ 32 ∷ (decimal m ++ 32 ∷ (codes "commander" ++ 32 ∷ rest))) (digits_lack space no_space n ln) refl
    ∙ ap (λ ps. decimal n ∷ ps)
    (pieces-append space (codes "bound") 32 (decimal m ++ 32 ∷ (codes "commander" ++ 32 ∷ rest)) refl refl
    ∙ ap (λ ps. codes "bound" ∷ ps)
    (pieces-append space (decimal m) 32 (codes "commander" ++ 32 ∷ rest) (digits_lack space no_space m lm) refl
    ∙ ap (λ ps. decimal m ∷ ps)
    (pieces-append space (codes "commander") 32 rest refl refl)))))

rule_parted : (n m c : ℕ) (words : List ℕ) → codes "generals " ++ decimal n ++ codes " bound " ++ decimal m ++ codes " commander " ++ decimal c ++ words ≡ codes "generals " ++ decimal n ++ codes " bound " ++ decimal m ++ codes " commander " ++ (decimal c ++ words)
rule_parted n m c words = append_assoc (codes "generals " ++ decimal n ++ codes " bound " ++ decimal m ++ codes " commander ") (decimal c) words

-- The commander's number, and the rule after it, if there is one.
pieces_rule : (c : ℕ) (is_none : Bool) (name : List ℕ) → c < 2 ^ 64 → Lacks space name → pieces space (decimal c ++ (if is_none then [] else codes " rule " ++ name)) ≡ decimal c ∷ (if is_none then [] else codes "rule" ∷ name ∷ [])
pieces_rule c true name l free = ap (pieces space) (append-nil (decimal c)) ∙ pieces-all space (decimal c) (digits_lack space no_space c l)
pieces_rule c false name l free =
    pieces-append space (decimal c) 32 (codes "rule " ++ name) (digits_lack space no_space c l) refl
    ∙ ap (λ ps. decimal c ∷ ps)
    (pieces-append space (codes "rule") 32 name refl refl ∙ ap (λ ps. codes "rule" ∷ ps) (pieces-all space name free))

-- The words after the commander's number.
abbrev rule_parts_of : Rule → List (List ℕ)
rule_parts_of rule = if is_default rule then [] else codes "rule" ∷ rule_name rule ∷ []

pieces_head : (n m c : ℕ) (rule : Rule) → n < 2 ^ 64 → m < 2 ^ 64 → c < 2 ^ 64 → pieces space (head n m c rule) ≡ codes "generals" ∷ decimal n ∷ codes "bound" ∷ decimal m ∷ codes "commander" ∷ decimal c ∷ rule_parts_of rule
pieces_head n m c rule ln lm lc =
    ap (pieces space) (rule_parted n m c (rule_words rule))
    ∙ (pieces_front n m (decimal c ++ rule_words rule) ln lm
    ∙ ap (λ ps. codes "generals" ∷ decimal n ∷ codes "bound" ∷ decimal m ∷ codes "commander" ∷ ps) (pieces_rule c (is_default rule) (rule_name rule) lc (name_lacks_space rule)))

-- The rule that is read there.
rule_read : (rule : Rule) → rule_parts (rule_parts_of rule) ≡ Some rule
rule_read rule = told_by (is_default rule) refl
  where
    told_by : (is_none : Bool) → is_default rule ≡ is_none → rule_parts (if is_none then [] else codes "rule" ∷ rule_name rule ∷ []) ≡ Some rule
    told_by true e = ap Some (sym ((names_law.default rule).0 e))
    told_by false e = names_law.read rule

parts_read : (n m c : ℕ) (parts : List (List ℕ)) (rule : Rule) → rule_parts parts ≡ Some rule → head_parts (codes "generals" ∷ decimal n ∷ codes "bound" ∷ decimal m ∷ codes "commander" ∷ decimal c ∷ parts) ≡ Some (decimal n, decimal m, decimal c, rule)
parts_read n m c parts rule e = ap (λ (o : Option Rule). o >>= λ told. Some (decimal n, decimal m, decimal c, told)) e

-- The numbers of a first line's words, as `head_of` takes them.
abbrev numbers_of : List ℕ × List ℕ × List ℕ × Rule → Option (ℕ × ℕ × ℕ × Rule)
numbers_of parts = decimal_of parts.0 >>= λ n. decimal_of parts.1 >>= λ m. decimal_of parts.2 >>= λ c. Some (n, m, c, parts.3)

-- What is read from a first line that was written.
pub head_read : (n m c : ℕ) (rule : Rule) → n < 2 ^ 64 → m < 2 ^ 64 → c < 2 ^ 64 → head_of (head n m c rule) ≡ Some (n, m, c, rule)
unfolding head_of
head_read n m c rule ln lm lc =
    ap (λ (ps : List (List ℕ)). head_parts ps >>= numbers_of) (pieces_head n m c rule ln lm lc)
    ∙ (ap (λ (o : Option (List ℕ × List ℕ × List ℕ × Rule)). o >>= numbers_of) (parts_read n m c (rule_parts_of rule) rule (rule_read rule))
    ∙ rw (decimal_of-decimal n ln, decimal_of-decimal m lm, decimal_of-decimal c lc) refl)

rule_lacks : (rule : Rule) → Lacks feed (rule_words rule)
rule_lacks rule = lacks_by (is_default rule)
  where
    lacks_by : (is_none : Bool) → Lacks feed (if is_none then [] else codes " rule " ++ rule_name rule)
    lacks_by true = refl
    lacks_by false = all-append (λ x. not (is_stop feed x)) (codes " rule ") (rule_name rule) refl (name_lacks_feed rule)

pub head_lacks : (n m c : ℕ) (rule : Rule) → n < 2 ^ 64 → m < 2 ^ 64 → c < 2 ^ 64 → Lacks feed (head n m c rule)
head_lacks n m c rule ln lm lc =
    let T : ℕ → Bool = λ x. not (is_stop feed x) in
    all-append T (codes "generals " ++ decimal n ++ codes " bound " ++ decimal m ++ codes " commander " ++ decimal c) (rule_words rule)
    (all-append T (codes "generals " ++ decimal n ++ codes " bound " ++ decimal m ++ codes " commander ") (decimal c)
    (all-append T (codes "generals " ++ decimal n ++ codes " bound " ++ decimal m) (codes " commander ")
    (all-append T (codes "generals " ++ decimal n ++ codes " bound ") (decimal m)
    (all-append T (codes "generals " ++ decimal n) (codes " bound ") (all-append T (codes "generals ") (decimal n) refl (digits_lack feed no_feed n ln)) refl)
    (digits_lack feed no_feed m lm)) refl) (digits_lack feed no_feed c lc)) (rule_lacks rule)
