-- A table to fill in is read again after it is filled in.
use Rattle.std.proofs.Common.{ℕ, zero, suc, ◌+◌, ◌^◌, ◌<◌, ◌≤◌, ◌≡◌, ◌≢◌, Bool, true, false, not, ◌&&◌, List, [], ◌∷◌, ◌++◌, map, length, refl, sym, ap, ◌∙◌, arith, inl, inr, append_assoc, append-nil, Some}
use Rattle.std.specs.Prelude.{◌==◌, nat_lt, nat_le, bytes_eq, codes, decimal, find, option_map, Ok}
use Rattle.std.specs.List.{flat_map, range_with_len, list_all, list_any, AllByRecursion}
use Rattle.std.proofs.lemmas.Bool.{cases_Bool, cond-true, cond-false, and_parts, or_from, or_cases, eqb-true, lt-ltb, ltb-true, leb-true, true≢false}
use Rattle.std.proofs.lemmas.Bool.Decides.{nat_tests}
use Rattle.std.proofs.lemmas.Grind.{flat_map-append}
use Rattle.std.proofs.lemmas.List.Folds.{list_any-append}
use Rattle.std.proofs.lemmas.Slice.Eq.{bytes_eq-Decides}
use Rattle.combine.specs.declared.campaign_rule.Rule.TheVariants.{Majority}
use Rattle.label.specs.Labels.{on, others, is_distinct}
use Rattle.label.specs.Space.{begins_with}
use Rattle.text.specs.declared.stop.Stop.{Stop}
use Rattle.text.specs.Stop.{space, dot, feed, is_stop, is_within}
use Rattle.text.specs.Parts.{pieces, lines_of}
use Rattle.text.proofs.BytesLemmas.{all-append, all-weaker}
use Rattle.text.proofs.CutLemmas.{Lacks, pieces-append, pieces-all, lines_of-append}
use Rattle.text.proofs.DecimalLemmas.{digits-decimal, decimal_of-decimal}
use Rattle.book.specs.declared.message.Message.{Message}
use Rattle.book.specs.Table.{MessageTable, is_about, told}
use Rattle.book.specs.Explained.{dotted}
use Rattle.book.specs.Forms.{place_line, place_lines, marked_text, FormsAreRead}
use Rattle.book.specs.Grammar.{is_place, numbers_of, message_of, order_in, head_of, checked, with_message, lines_told, table_told}
use Rattle.book.proofs.Places.{Place, places, places_from, is_in, AllDiffer, fits, is_place_of, are_places, places_differ, all_found}

-- Digits are not among the characters at which a line is split.
pub digits_lack : (stop : Stop) → ((c : ℕ) → is_within 48 57 c ≡ true → not (is_stop stop c) ≡ true) → (n : ℕ) → n < 2 ^ 64 → Lacks stop (decimal n)
digits_lack stop h n l = all-weaker (is_within 48 57) (λ c. not (is_stop stop c)) h (decimal n) (digits-decimal n l)

pub no_space : (c : ℕ) → is_within 48 57 c ≡ true → not (is_stop space c) ≡ true
no_space c h = grind (arith, nat_tests)

no_dot : (c : ℕ) → is_within 48 57 c ≡ true → not (is_stop dot c) ≡ true
no_dot c h = grind (arith, nat_tests)

pub no_feed : (c : ℕ) → is_within 48 57 c ≡ true → not (is_stop feed c) ≡ true
no_feed c h = grind (arith, nat_tests)

-- The generals' numbers as they are printed.
abbrev pub AreFew : List ℕ → Type 0
AreFew w = list_all (λ x. nat_lt x 13) w ≡ true

few_first : (x : ℕ) (xs : List ℕ) → AreFew (x ∷ xs) → x < 2 ^ 64
few_first x xs h = let l : x < 13 = ltb-true x 13 (and_parts (nat_lt x 13) (list_all (λ y. nat_lt y 13) xs) h).0 in omega arith

few_rest : (x : ℕ) (xs : List ℕ) → AreFew (x ∷ xs) → AreFew xs
few_rest x xs h = (and_parts (nat_lt x 13) (list_all (λ y. nat_lt y 13) xs) h).1

behind_lack : (stop : Stop) → ((c : ℕ) → is_within 48 57 c ≡ true → not (is_stop stop c) ≡ true) → not (is_stop stop 46) ≡ true → (gs : List ℕ) → AreFew gs → Lacks stop (flat_map (λ g. codes "." ++ decimal g) gs)
behind_lack stop h d [] few = refl
behind_lack stop h d (g ∷ gs) few =
    all-append (λ c. not (is_stop stop c)) (codes "." ++ decimal g) (flat_map (λ x. codes "." ++ decimal x) gs)
    (all-append (λ c. not (is_stop stop c)) (codes ".") (decimal g) (rw d refl) (digits_lack stop h g (few_first g gs few))) (behind_lack stop h d gs (few_rest g gs few))

pub dotted_lack : (stop : Stop) → ((c : ℕ) → is_within 48 57 c ≡ true → not (is_stop stop c) ≡ true) → not (is_stop stop 46) ≡ true → (w : List ℕ) → AreFew w → Lacks stop (dotted w)
dotted_lack stop h d [] few = refl
dotted_lack stop h d (g ∷ gs) few = all-append (λ c. not (is_stop stop c)) (decimal g) (flat_map (λ x. codes "." ++ decimal x) gs) (digits_lack stop h g (few_first g gs few)) (behind_lack stop h d gs (few_rest g gs few))

pieces_dotted : (g : ℕ) (gs : List ℕ) → AreFew (g ∷ gs) → pieces dot (dotted (g ∷ gs)) ≡ map decimal (g ∷ gs)
pieces_dotted g [] few = rw append-nil (pieces-all dot (decimal g) (digits_lack dot no_dot g (few_first g [] few)))
pieces_dotted g (h ∷ gs) few =
    pieces-append dot (decimal g) 46 (dotted (h ∷ gs)) (digits_lack dot no_dot g (few_first g (h ∷ gs) few)) refl
    ∙ ap (λ ps. decimal g ∷ ps) (pieces_dotted h gs (few_rest g (h ∷ gs) few))

numbers_read : (w : List ℕ) → AreFew w → numbers_of (map decimal w) ≡ Some w
numbers_read [] few = refl
numbers_read (g ∷ gs) few = rw (decimal_of-decimal g (few_first g gs few), numbers_read gs (few_rest g gs few)) refl

-- The line of a place with its order, without its line feed.
abbrev pub tell : List ℕ → ℕ → ℕ → List ℕ
tell w p v = codes "tell " ++ dotted w ++ codes " " ++ decimal p ++ codes " " ++ decimal v

tell_parted : (w : List ℕ) (p v : ℕ) → tell w p v ≡ codes "tell" ++ 32 ∷ (dotted w ++ 32 ∷ (decimal p ++ 32 ∷ decimal v))
tell_parted w p v = simp append_assoc

pieces_told : (w : List ℕ) (p v : ℕ) → AreFew w → p < 13 → v < 2 ^ 32 → pieces space (tell w p v) ≡ codes "tell" ∷ dotted w ∷ decimal p ∷ decimal v ∷ []
pieces_told w p v few lp lv =
    ap (pieces space) (tell_parted w p v)
    ∙ (pieces-append space (codes "tell") 32 (dotted w ++ 32 ∷ (decimal p ++ 32 ∷ decimal v)) refl refl
    ∙ ap (λ ps. codes "tell" ∷ ps)
    (pieces-append space (dotted w) 32 (decimal p ++ 32 ∷ decimal v) (dotted_lack space no_space refl w few) refl
    ∙ ap (λ ps. dotted w ∷ ps)
    (pieces-append space (decimal p) 32 (decimal v) (digits_lack space no_space p (omega arith)) refl
    ∙ ap (λ ps. decimal p ∷ ps) (pieces-all space (decimal v) (digits_lack space no_space v (omega arith))))))

abbrev message : (List ℕ → ℕ → ℕ) → Place → Message
message order z = record { label = z.0; receiver = z.1; order = order z.0 z.1 }

pub message_read : (g : ℕ) (gs : List ℕ) (p v : ℕ) → AreFew (g ∷ gs) → p < 13 → v < 2 ^ 32 → message_of (tell (g ∷ gs) p v) ≡ Some (record { label = g ∷ gs; receiver = p; order = v })
unfolding message_of order_in
message_read g gs p v few lp lv =
    let first : p < 2 ^ 64 = omega arith in
    let second : v < 2 ^ 64 = omega arith in
    rw (pieces_told (g ∷ gs) p v few lp lv, pieces_dotted g gs few, numbers_read (g ∷ gs) few, decimal_of-decimal p first, decimal_of-decimal v second, lt-ltb v (2 ^ 32) lv) refl

-- The first line, without its line feed.
abbrev head : ℕ → ℕ → ℕ → List ℕ
head n m c = codes "generals " ++ decimal n ++ codes " bound " ++ decimal m ++ codes " commander " ++ decimal c

head_parted : (n m c : ℕ) → head n m c ≡ codes "generals" ++ 32 ∷ (decimal n ++ 32 ∷ (codes "bound" ++ 32 ∷ (decimal m ++ 32 ∷ (codes "commander" ++ 32 ∷ decimal c))))
head_parted n m c = simp append_assoc

pieces_head : (n m c : ℕ) → n < 2 ^ 64 → m < 2 ^ 64 → c < 2 ^ 64 → pieces space (head n m c) ≡ codes "generals" ∷ decimal n ∷ codes "bound" ∷ decimal m ∷ codes "commander" ∷ decimal c ∷ []
pieces_head n m c ln lm lc =
    ap (pieces space) (head_parted n m c)
    ∙ (pieces-append space (codes "generals") 32 (decimal n ++ 32 ∷ (codes "bound" ++ 32 ∷ (decimal m ++ 32 ∷ (codes "commander" ++ 32 ∷ decimal c)))) refl refl
    ∙ ap (λ ps. codes "generals" ∷ ps)
    (pieces-append space (decimal n) 32 (codes "bound" ++ 32 ∷ (decimal m ++ 32 ∷ (codes "commander" ++ 32 ∷ decimal c))) (digits_lack space no_space n ln) refl
    ∙ ap (λ ps. decimal n ∷ ps)
    (pieces-append space (codes "bound") 32 (decimal m ++ 32 ∷ (codes "commander" ++ 32 ∷ decimal c)) refl refl
    ∙ ap (λ ps. codes "bound" ∷ ps)
    (pieces-append space (decimal m) 32 (codes "commander" ++ 32 ∷ decimal c) (digits_lack space no_space m lm) refl
    ∙ ap (λ ps. decimal m ∷ ps)
    (pieces-append space (codes "commander") 32 (decimal c) refl refl
    ∙ ap (λ ps. codes "commander" ∷ ps) (pieces-all space (decimal c) (digits_lack space no_space c lc)))))))

head_read : (n m c : ℕ) → n < 2 ^ 64 → m < 2 ^ 64 → c < 2 ^ 64 → head_of (head n m c) ≡ Some (n, m, c, Majority)
unfolding head_of
head_read n m c ln lm lc = rw (pieces_head n m c ln lm lc, decimal_of-decimal n ln, decimal_of-decimal m lm, decimal_of-decimal c lc) refl

-- Lines, each with its line feed.
pub lines_read : (ls : List (List ℕ)) → AllByRecursion (Lacks feed) ls → lines_of (flat_map (λ l. l ++ 10 ∷ []) ls) ≡ ls
lines_read [] h = refl
lines_read (l ∷ ls) h = ap lines_of (append_assoc l (10 ∷ []) (flat_map (λ x. x ++ 10 ∷ []) ls)) ∙ (lines_of-append l (flat_map (λ x. x ++ 10 ∷ []) ls) h.0 ∙ ap (λ xs. l ∷ xs) (lines_read ls h.1))

pub flat_flat : (G : Place → List ℕ) (F : ℕ → List Place) (xs : List ℕ) → flat_map G (flat_map F xs) ≡ flat_map (λ x. flat_map G (F x)) xs
flat_flat G F [] = refl
flat_flat G F (x ∷ xs) = flat_map-append G (F x) (flat_map F xs) ∙ ap (λ ys. flat_map G (F x) ++ ys) (flat_flat G F xs)

pub flat_same : (F G : ℕ → List ℕ) (xs : List ℕ) → ((x : ℕ) → F x ≡ G x) → flat_map F xs ≡ flat_map G xs
flat_same F G [] h = refl
flat_same F G (x ∷ xs) h = rw (h x, flat_same F G xs h) refl

flat_map_is : (G : Place → List ℕ) (zs : List Place) → flat_map (λ z. G z ++ 10 ∷ []) zs ≡ flat_map (λ l. l ++ 10 ∷ []) (map G zs)
flat_map_is G [] = refl
flat_map_is G (z ∷ zs) = ap (λ ys. (G z ++ 10 ∷ []) ++ ys) (flat_map_is G zs)

-- The line of a place.
abbrev line : (List ℕ → ℕ → ℕ) → Place → List ℕ
line order z = tell z.0 z.1 (order z.0 z.1)

lines_placed : (order : List ℕ → ℕ → ℕ) (n k : ℕ) (w : List ℕ) → place_lines (λ v p. decimal (order v p)) n k w ≡ flat_map (λ z. line order z ++ 10 ∷ []) (places_from n k w)
unfolding place_lines
lines_placed order n zero w =
    sym (flat_flat (λ z. line order z ++ 10 ∷ []) (λ p. (w, p) ∷ []) (others n w)
    ∙ flat_same (λ p. flat_map (λ z. line order z ++ 10 ∷ []) ((w, p) ∷ [])) (λ p. place_line w p (decimal (order w p))) (others n w) (λ p. append-nil (line order (w, p) ++ 10 ∷ [])))
lines_placed order n (suc k) w =
    flat_same (λ j. place_lines (λ v p. decimal (order v p)) n k (w ++ j ∷ [])) (λ j. flat_map (λ z. line order z ++ 10 ∷ []) (places_from n k (w ++ j ∷ []))) (others n w) (λ j. lines_placed order n k (w ++ j ∷ []))
    ∙ sym (flat_flat (λ z. line order z ++ 10 ∷ []) (λ j. places_from n k (w ++ j ∷ [])) (others n w))

text_is : (order : List ℕ → ℕ → ℕ) (n m c : ℕ) → marked_text (λ v p. decimal (order v p)) n m c ≡ flat_map (λ l. l ++ 10 ∷ []) (head n m c ∷ map (line order) (places n m c))
unfolding marked_text
text_is order n m c =
    ap (λ ys. (head n m c ++ 10 ∷ []) ++ ys)
    (flat_same (λ k. place_lines (λ v p. decimal (order v p)) n k (c ∷ [])) (λ k. flat_map (λ z. line order z ++ 10 ∷ []) (places_from n k (c ∷ []))) (range_with_len 0 (m + 1)) (λ k. lines_placed order n k (c ∷ []))
    ∙ (sym (flat_flat (λ z. line order z ++ 10 ∷ []) (λ k. places_from n k (c ∷ [])) (range_with_len 0 (m + 1)))
    ∙ flat_map_is (line order) (places n m c)))

-- What is known of a place: its label is not empty and has few generals.
record IsSmall (z : Place) : Type 0 where
  some : (g : ℕ) × (gs : List ℕ) × (z.0 ≡ g ∷ gs)
  few : AreFew z.0
  receiver : z.1 < 13

pub begun_some : (c : ℕ) (w : List ℕ) → begins_with c w ≡ true → (g : ℕ) × (gs : List ℕ) × (w ≡ g ∷ gs)
begun_some c [] e = absurd (true≢false (sym e))
begun_some c (x ∷ xs) e = (x, xs, refl)

pub few_all : (n : ℕ) (w : List ℕ) → n ≤ 13 → list_all (λ x. nat_lt x n) w ≡ true → AreFew w
few_all n w l h = all-weaker (λ x. nat_lt x n) (λ x. nat_lt x 13) (λ x i. let j : x < n = ltb-true x n i in lt-ltb x 13 (omega arith)) w h

small : (n m c : ℕ) (z : Place) → n ≤ 13 → is_place_of n m c z.0 z.1 ≡ true → IsSmall z
small n m c z l e =
    let off = and_parts (fits n m c z.0 && nat_lt z.1 n) (not (on z.0 z.1)) e in
    let general = and_parts (fits n m c z.0) (nat_lt z.1 n) off.0 in
    let short = and_parts (is_distinct z.0 && begins_with c z.0 && list_all (λ y. nat_lt y n) z.0) (nat_le (length z.0) (m + 1)) general.0 in
    let below = and_parts (is_distinct z.0 && begins_with c z.0) (list_all (λ y. nat_lt y n) z.0) short.0 in
    let first = and_parts (is_distinct z.0) (begins_with c z.0) below.0 in
    let receiver : z.1 < n = ltb-true z.1 n general.1 in
    record { some = begun_some c z.0 first.1; few = few_all n z.0 l below.1; receiver = omega arith }

line_read : (order : List ℕ → ℕ → ℕ) → ((w : List ℕ) (p : ℕ) → order w p < 2 ^ 32) → (z : Place) → IsSmall z → message_of (line order z) ≡ Some (message order z)
line_read order bits z s =
    let few = s.few in
    ap (λ v. message_of (tell v z.1 (order z.0 z.1))) s.some.2 ∙ (message_read s.some.0 s.some.1 z.1 (order z.0 z.1) (rw s.some.2 at few) s.receiver (bits z.0 z.1) ∙ ap (λ v. Some (record { label = v; receiver = z.1; order = order z.0 z.1 })) (sym s.some.2))

line_lacks : (order : List ℕ → ℕ → ℕ) → ((w : List ℕ) (p : ℕ) → order w p < 2 ^ 32) → (z : Place) → IsSmall z → Lacks feed (line order z)
line_lacks order bits z s =
    let T : ℕ → Bool = λ c. not (is_stop feed c) in
    let p : z.1 < 2 ^ 64 = let r = s.receiver in omega arith in
    let v : order z.0 z.1 < 2 ^ 64 = let r = bits z.0 z.1 in omega arith in
    all-append T (codes "tell " ++ dotted z.0 ++ codes " " ++ decimal z.1 ++ codes " ") (decimal (order z.0 z.1))
    (all-append T (codes "tell " ++ dotted z.0 ++ codes " " ++ decimal z.1) (codes " ")
    (all-append T (codes "tell " ++ dotted z.0 ++ codes " ") (decimal z.1)
    (all-append T (codes "tell " ++ dotted z.0) (codes " ") (all-append T (codes "tell ") (dotted z.0) refl (dotted_lack feed no_feed refl z.0 s.few)) refl)
    (digits_lack feed no_feed z.1 p)) refl) (digits_lack feed no_feed (order z.0 z.1) v)

head_lacks : (n m c : ℕ) → n < 2 ^ 64 → m < 2 ^ 64 → c < 2 ^ 64 → Lacks feed (head n m c)
head_lacks n m c ln lm lc =
    let T : ℕ → Bool = λ x. not (is_stop feed x) in
    all-append T (codes "generals " ++ decimal n ++ codes " bound " ++ decimal m ++ codes " commander ") (decimal c)
    (all-append T (codes "generals " ++ decimal n ++ codes " bound " ++ decimal m) (codes " commander ")
    (all-append T (codes "generals " ++ decimal n ++ codes " bound ") (decimal m)
    (all-append T (codes "generals " ++ decimal n) (codes " bound ") (all-append T (codes "generals ") (decimal n) refl (digits_lack feed no_feed n ln)) refl)
    (digits_lack feed no_feed m lm)) refl) (digits_lack feed no_feed c lc)

lines_lack : (order : List ℕ → ℕ → ℕ) → ((w : List ℕ) (p : ℕ) → order w p < 2 ^ 32) → (zs : List Place) → AllByRecursion IsSmall zs → AllByRecursion (Lacks feed) (map (line order) zs)
lines_lack order bits [] a = tt
lines_lack order bits (z ∷ zs) a = (line_lacks order bits z a.0, lines_lack order bits zs a.1)

-- A message is about no other place.
elsewhere : (order : List ℕ → ℕ → ℕ) (z y : Place) → z ≢ y → is_about y.0 y.1 (message order z) ≡ false
elsewhere order z y ne = elim (cases_Bool (is_about y.0 y.1 (message order z))) [
  | inl it ↦
      let both = and_parts (z.1 == y.1) (bytes_eq z.0 y.0) it in
      let p : z.1 ≡ y.1 = eqb-true z.1 y.1 both.0 in
      let w : z.0 ≡ y.0 = (bytes_eq-Decides z.0 y.0).0 both.1 in
      let same : z ≡ y = ap (λ v. (v, z.1)) w ∙ ap (λ q. (y.0, q)) p in
      absurd (ne same)
  | inr fails ↦ fails
]

-- No message is about one of these places.
abbrev AreNew : List Message → List Place → Type 0
AreNew messages zs = AllByRecursion (λ z. list_any (is_about z.0 z.1) messages ≡ false) zs

new_more : (order : List ℕ → ℕ → ℕ) (messages : List Message) (z : Place) (zs : List Place) → AreNew messages zs → AllByRecursion (λ y. z ≢ y) zs → AreNew (messages ++ message order z ∷ []) zs
new_more order messages z [] a d = tt
new_more order messages z (y ∷ ys) a d = (
  list_any-append (is_about y.0 y.1) messages (message order z ∷ []) ∙ or_from (list_any (is_about y.0 y.1) messages) (list_any (is_about y.0 y.1) (message order z ∷ [])) a.0 (or_from (is_about y.0 y.1 (message order z)) false (elsewhere order z y d.0) refl),
  new_more order messages z ys a.1 d.1,
)

abbrev with_all : MessageTable → List Message → MessageTable
with_all t more = record t { messages = t.messages ++ more }

-- The lines are read one after the other.
lines_are_told : (order : List ℕ → ℕ → ℕ) → ((w : List ℕ) (p : ℕ) → order w p < 2 ^ 32) → (zs : List Place) (t : MessageTable) (number : ℕ)
    → AllByRecursion (λ z. is_place t z.0 z.1 ≡ true) zs → AllByRecursion IsSmall zs → AllDiffer zs → AreNew t.messages zs → lines_told t number (map (line order) zs) ≡ Ok (with_all t (map (message order) zs))
lines_are_told order bits [] t number places smalls differ new = ap (λ ms. Ok (record t { messages = ms })) (sym (append-nil t.messages))
lines_are_told order bits (z ∷ zs) t number places smalls differ new =
    let good : checked t (message_of (line order z)) ≡ Ok (message order z) = rw (line_read order bits z smalls.0, places.0, new.0) refl in
    let next : MessageTable = with_message t (message order z) in
    let rest : lines_told next (suc number) (map (line order) zs) ≡ Ok (with_all next (map (message order) zs)) = lines_are_told order bits zs next (suc number) places.1 smalls.1 differ.1 (new_more order t.messages z zs new.1 differ.0) in
    rw good (rest ∙ ap (λ ms. Ok (record t { messages = ms })) (append_assoc t.messages (message order z ∷ []) (map (message order) zs)))

-- The order at a place in the list is found.
found_told : (order : List ℕ → ℕ → ℕ) (w : List ℕ) (p : ℕ) (zs : List Place) → is_in w p zs ≡ true → told (map (message order) zs) w p ≡ Some (order w p)
unfolding told
found_told order w p [] i = absurd (true≢false (sym i))
found_told order w p (z ∷ zs) i = elim (cases_Bool (is_about w p (message order z))) [
  | inl it ↦
      let both = and_parts (z.1 == p) (bytes_eq z.0 w) it in
      let q : z.1 ≡ p = eqb-true z.1 p both.0 in
      let v : z.0 ≡ w = (bytes_eq-Decides z.0 w).0 both.1 in
      ap (option_map (λ x. x.order)) (cond-true (is_about w p (message order z)) (Some (message order z)) (find (is_about w p) (map (message order) zs)) it) ∙ (ap (λ u. Some (order u z.1)) v ∙ ap (λ u. Some (order w u)) q)
  | inr fails ↦
      ap (option_map (λ x. x.order)) (cond-false (is_about w p (message order z)) (Some (message order z)) (find (is_about w p) (map (message order) zs)) fails)
      ∙ found_told order w p zs (elim (or_cases (z.1 == p && bytes_eq z.0 w) (is_in w p zs) i) [ inl here ↦ absurd (true≢false (sym here ∙ fails)) | inr there ↦ there ])
]

weaker : (P Q : Place → Type 0) (xs : List Place) → ((x : Place) → P x → Q x) → AllByRecursion P xs → AllByRecursion Q xs
weaker P Q [] h a = tt
weaker P Q (x ∷ xs) h a = (h x a.0, weaker P Q xs h a.1)

none_before : (zs : List Place) → AreNew [] zs
none_before [] = tt
none_before (z ∷ zs) = (refl, none_before zs)

-- The law, as specs/Forms states it.
pub proved_forms_are_read : FormsAreRead
unfolding table_told
proved_forms_are_read order bits n m c within =
    let last = and_parts (nat_le n 13 && nat_le m 4 && nat_le (m + 2) n) (nat_lt c n) within in
    let middle = and_parts (nat_le n 13 && nat_le m 4) (nat_le (m + 2) n) last.0 in
    let first = and_parts (nat_le n 13) (nat_le m 4) middle.0 in
    let few : n ≤ 13 = leb-true n 13 first.0 in
    let rounds : m ≤ 4 = leb-true m 4 first.1 in
    let present : c < n = ltb-true c n last.1 in
    let empty : MessageTable = record { generals = n; bound = m; commander = c; rule = Majority; messages = [] } in
    let zs : List Place = places n m c in
    let good : AllByRecursion (λ z. is_place_of n m c z.0 z.1 ≡ true) (places n m c) = are_places n m c present in
    let smalls : AllByRecursion IsSmall (places n m c) = weaker (λ z. is_place_of n m c z.0 z.1 ≡ true) IsSmall (places n m c) (λ z e. small n m c z few e) good in
    let ln : n < 2 ^ 64 = omega arith in
    let lm : m < 2 ^ 64 = omega arith in
    let lc : c < 2 ^ 64 = omega arith in
    let lines = ap lines_of (text_is order n m c) ∙ lines_read (head n m c ∷ map (line order) (places n m c)) (head_lacks n m c ln lm lc, lines_lack order bits (places n m c) smalls) in
    let all = lines_are_told order bits (places n m c) empty 2 good smalls (places_differ n m c) (none_before (places n m c)) in (
      with_all empty (map (message order) (places n m c)),
      rw (lines, head_read n m c ln lm lc, within) all,
      record {
        generals = refl;
        bound = refl;
        commander = refl;
        rule = refl;
        told = λ w p e. found_told order w p (places n m c) (all_found n m c w p e);
      },
    )
