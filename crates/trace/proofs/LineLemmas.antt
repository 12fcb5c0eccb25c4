-- Lines, written in another way.
use Rattle.std.proofs.Common.{◌≡◌, ℕ, Bool, true, false, List, [], ◌∷◌, ◌++◌, refl, sym, ap, ◌∙◌, append_assoc, append-nil, map, take, length, get_or, ◌+◌, ◌<◌}
use Rattle.std.specs.Prelude.{decimal, codes, filter, Option, None, Some}
use Rattle.std.proofs.lemmas.List.{take_more, map-append}
use Rattle.std.proofs.lemmas.List.Elements.{filter-append}
use Rattle.semantics.specs.declared.request.Request.{Request}
use Rattle.board.specs.Board.{Access}
use Rattle.trace.specs.Text.{Word, Line, author_line, spaced, further, access_line, question, text, decision_line}
use Rattle.trace.specs.Lines.{mark}
use Rattle.trace.proofs.WrittenLemmas.{further-append, further-one}

-- The line of an access is made from its parts.
pub access_parts : (head number : List ℕ) (q : Request) (reply : List Word)
    → (((head ++ 32 ∷ number) ++ further (question q)) ++ codes " =") ++ further reply ++ 10 ∷ [] ≡ (head ++ further (number ∷ (question q ++ (codes "=" ∷ reply)))) ++ 10 ∷ []
access_parts head number q reply =
    rw (further-append (question q) (codes "=" ∷ reply)) (simp append_assoc)

-- The first line of a letter, word by word.
pub loyal_line : (g : ℕ) (steps : Option ℕ) → steps ≡ None → codes "letter" ∷ decimal g ∷ codes "loyal" ∷ [] ≡ author_line g steps
loyal_line g steps e = ap (author_line g) (sym e)

pub acting_line : (g taken : ℕ) (steps : Option ℕ) → steps ≡ Some taken
    → codes "letter" ∷ decimal g ∷ codes "steps" ∷ decimal taken ∷ [] ≡ author_line g steps
acting_line g taken steps e = ap (author_line g) (sym e)

-- The line of a decision is made from its parts.
decision_is : (g : ℕ) (b : Bool) (d : ℕ) → decision_line g b d ≡ codes "decision" ∷ decimal g ∷ (mark b ++ decimal d ∷ [])
decision_is g true d = refl
decision_is g false d = refl

marked : (head number : List ℕ) (ws : List Word) (last : List ℕ) → (((head ++ 32 ∷ number) ++ further ws) ++ (32 ∷ last)) ++ 10 ∷ [] ≡ (head ++ further (number ∷ (ws ++ last ∷ []))) ++ 10 ∷ []
marked head number ws last =
    let end : further ws ++ (32 ∷ last) ≡ further (ws ++ last ∷ []) = sym (further-append ws (last ∷ []) ∙ ap (λ t. further ws ++ t) (further-one last)) in
    ap (λ t. t ++ 10 ∷ []) (append_assoc (head ++ 32 ∷ number) (further ws) (32 ∷ last) ∙ append_assoc head (32 ∷ number) (further ws ++ (32 ∷ last)) ∙ ap (λ t. head ++ (32 ∷ (number ++ t))) end)

pub decision_parts : (g : ℕ) (b : Bool) (d : ℕ) → (((codes "decision" ++ 32 ∷ decimal g) ++ further (mark b)) ++ (32 ∷ decimal d)) ++ 10 ∷ [] ≡ text (decision_line g b d ∷ [])
decision_parts g b d = marked (codes "decision") (decimal g) (mark b) (decimal d) ∙ sym (ap (λ l. text (l ∷ [])) (decision_is g b d))

-- A word, and more words after it.
pub said : (x : List ℕ) (w : Word) (ws : List Word) → (x ++ (32 ∷ w)) ++ further ws ≡ x ++ further (w ∷ ws)
said x w ws = append_assoc x (32 ∷ w) (further ws)

-- The line of the verdict is made from its parts.
pub verdict_parts : (verdict alike a obeyed o bound b : List ℕ)
    → ((((((verdict ++ 32 ∷ alike) ++ (32 ∷ a)) ++ (32 ∷ obeyed)) ++ (32 ∷ o)) ++ (32 ∷ bound)) ++ (32 ∷ b)) ++ 10 ∷ [] ≡ (verdict ++ further (alike ∷ a ∷ obeyed ∷ o ∷ bound ∷ b ∷ [])) ++ 10 ∷ []
verdict_parts verdict alike a obeyed o bound b =
    let one = verdict ++ 32 ∷ alike in
    let two = one ++ (32 ∷ a) in
    let three = two ++ (32 ∷ obeyed) in
    let four = three ++ (32 ∷ o) in
    let five = four ++ (32 ∷ bound) in
    ap (λ t. t ++ 10 ∷ [])
    (ap (λ t. five ++ t) (sym (further-one b)) ∙ said four bound (b ∷ []) ∙ said three o (bound ∷ b ∷ []) ∙ said two obeyed (o ∷ bound ∷ b ∷ [])
    ∙ said one a (obeyed ∷ o ∷ bound ∷ b ∷ []) ∙ said verdict alike (a ∷ obeyed ∷ o ∷ bound ∷ b ∷ []))

-- Two words, and more words after them.
headed : (x : List ℕ) (w v : Word) (ws : List Word) → (x ++ ((32 ∷ w) ++ (32 ∷ v))) ++ further ws ≡ x ++ further (w ∷ v ∷ ws)
headed x w v ws = ap (λ t. t ++ further ws) (sym (append_assoc x (32 ∷ w) (32 ∷ v))) ∙ said (x ++ (32 ∷ w)) v ws ∙ said x w (v ∷ ws)

two_last : (x : List ℕ) (w v : Word) → x ++ ((32 ∷ w) ++ (32 ∷ v)) ≡ x ++ further (w ∷ v ∷ [])
two_last x w v = sym (append-nil (x ++ ((32 ∷ w) ++ (32 ∷ v)))) ∙ headed x w v []

-- The campaign's numbers are written one after another.
pub campaign_parts : (generals n bound m commander c order v : List ℕ)
    → (((generals ++ 32 ∷ n) ++ ((32 ∷ bound) ++ (32 ∷ m))) ++ ((32 ∷ commander) ++ (32 ∷ c))) ++ ((32 ∷ order) ++ (32 ∷ v)) ≡ generals ++ further (n ∷ bound ∷ m ∷ commander ∷ c ∷ order ∷ v ∷ [])
campaign_parts generals n bound m commander c order v =
    let one = generals ++ 32 ∷ n in
    let two = one ++ ((32 ∷ bound) ++ (32 ∷ m)) in
    let three = two ++ ((32 ∷ commander) ++ (32 ∷ c)) in
    two_last three order v ∙ headed two commander c (order ∷ v ∷ []) ∙ headed one bound m (commander ∷ c ∷ order ∷ v ∷ []) ∙ said generals n (bound ∷ m ∷ commander ∷ c ∷ order ∷ v ∷ [])

-- Four words, one after another.
pub four_words : (a b c d : Word) → (((32 ∷ a) ++ (32 ∷ b)) ++ (32 ∷ c)) ++ (32 ∷ d) ≡ further (a ∷ b ∷ c ∷ d ∷ [])
four_words a b c d =
    let two = (32 ∷ a) ++ (32 ∷ b) in
    ap (λ t. (two ++ (32 ∷ c)) ++ t) (sym (further-one d)) ∙ said two c (d ∷ []) ∙ said (32 ∷ a) b (c ∷ d ∷ [])

-- Lines after lines.
pub text-append : (ls ks : List Line) → text (ls ++ ks) ≡ text ls ++ text ks
text-append [] ks = refl
text-append (l ∷ ls) ks = ap (λ t. spaced l ++ (10 ∷ t)) (text-append ls ks) ∙ sym (append_assoc (spaced l) (10 ∷ text ls) (text ks))

-- One more access is written.
pub more_accesses : (p : Access → Bool) (xs : List Access) (i : ℕ) (x : Access) → i < length xs → x ≡ get_or xs i x
    → text (map access_line (filter p (take i xs))) ++ text (map access_line (filter p (x ∷ []))) ≡ text (map access_line (filter p (take (i + 1) xs)))
more_accesses p xs i x lt is =
    let e : take (i + 1) xs ≡ take i xs ++ x ∷ [] = take_more xs i x lt ∙ ap (λ y. take i xs ++ y ∷ []) (sym is) in
    sym (ap (λ t. text (map access_line (filter p t))) e ∙ ap (λ t. text (map access_line t)) (filter-append p (take i xs) (x ∷ []))
    ∙ ap text (map-append access_line (filter p (take i xs)) (filter p (x ∷ []))) ∙ text-append (map access_line (filter p (take i xs))) (map access_line (filter p (x ∷ []))))
