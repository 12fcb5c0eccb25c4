-- A table that is written as text is read again.
use Rattle.std.proofs.Common.{ℕ, suc, ◌+◌, ◌^◌, ◌<◌, ◌≤◌, ◌≡◌, ◌≢◌, Bool, true, false, not, ◌&&◌, ◌||◌, cond, List, [], ◌∷◌, ◌++◌, map, length, refl, sym, ap, ◌∙◌, arith, inl, inr, append_assoc, append-nil, Option, None, Some}
use Rattle.std.specs.Prelude.{◌==◌, nat_lt, nat_le, bytes_eq, find, option_map, Ok}
use Rattle.std.specs.List.{flat_map, list_all, list_any, AllByRecursion}
use Rattle.std.proofs.lemmas.Bool.{cases_Bool, cond-true, cond-false, and_parts, and_from, or_from, eqb-true, lt-ltb, ltb-true, le-leb, leb-true, ne_eqb, eq-eqb}
use Rattle.std.proofs.lemmas.List.Folds.{list_any-append}
use Rattle.std.proofs.lemmas.Slice.Eq.{bytes_eq-Decides}
use Rattle.combine.specs.Rule.{combined_by}
use Rattle.combine.specs.declared.campaign_rule.Rule.{Rule}
use Rattle.label.specs.Labels.{on, is_distinct}
use Rattle.label.specs.Oral.{Messages, IsLabel, AllBelow, BeginsWith, order_of, om}
use Rattle.label.specs.Space.{begins_with}
use Rattle.label.proofs.Same.{om-same}
use Rattle.text.specs.Stop.{feed}
use Rattle.text.specs.Parts.{lines_of}
use Rattle.text.proofs.CutLemmas.{Lacks}
use Rattle.book.specs.declared.message.Message.{Message}
use Rattle.book.specs.Table.{MessageTable, AreNumbersWithin, is_about, told}
use Rattle.book.specs.Decisions.{decision_of}
use Rattle.book.specs.Explained.{dotted}
use Rattle.book.specs.Grammar.{is_place, is_within, message_of, checked, with_message, lines_told, table_told}
use Rattle.book.proofs.FormLemmas.{AreFew, begun_some, few_all, lines_read, message_read, tell}
use Rattle.book.proofs.Places.{Place, places, is_in, AllDiffer, fits, is_place_of, are_places, places_differ, all_found}
use Rattle.book.specs.Collected.{collected, message, messages_at, told_more}
use Rattle.book.specs.Written.{first_line, line_of, mark_of, table_text, telling}
use Rattle.book.specs.WrittenLaws.{AreOrders, TablesAreRead}
use Rattle.book.proofs.Telling.{tell_of, tell_lacks, head, head_read, head_lacks}
use Rattle.book.proofs.Flattened.{placed, written_is}

added : (P : Message → Type 0) (z : Place) (o : Option ℕ) (ms : List Message) → ((v : ℕ) → o ≡ Some v → P (message z v)) → AllByRecursion P ms → AllByRecursion P (told_more z o ms)
added P z None ms here a = a
added P z (Some v) ms here a = (here v refl, a)

-- What is true of each message that is written.
all_messages : (M : Messages) (P : Message → Type 0) (zs : List Place) → AllByRecursion (λ z. (v : ℕ) → M z.0 z.1 ≡ Some v → P (message z v)) zs → AllByRecursion P (messages_at M zs)
all_messages M P [] a = tt
all_messages M P (z ∷ zs) a = added P z (M z.0 z.1) (messages_at M zs) a.0 (all_messages M P zs a.1)

weaker : (P Q : Place → Type 0) (xs : List Place) → ((x : Place) → P x → Q x) → AllByRecursion P xs → AllByRecursion Q xs
weaker P Q [] h a = tt
weaker P Q (x ∷ xs) h a = (h x a.0, weaker P Q xs h a.1)

-- The lines of these places are those of the messages.
line_more : (z : Place) (o : Option ℕ) (ms : List Message) (rest : List ℕ) → rest ≡ flat_map (λ l. l ++ 10 ∷ []) (map tell_of ms) → line_of (dotted z.0) z.1 (mark_of o) ++ rest ≡ flat_map (λ l. l ++ 10 ∷ []) (map tell_of (told_more z o ms))
line_more z None ms rest e = e
line_more z (Some v) ms rest e = ap (λ ys. (tell z.0 z.1 v ++ 10 ∷ []) ++ ys) e

lines_are : (M : Messages) (zs : List Place) → flat_map (placed (telling M)) zs ≡ flat_map (λ l. l ++ 10 ∷ []) (map tell_of (messages_at M zs))
lines_are M [] = refl
lines_are M (z ∷ zs) = line_more z (M z.0 z.1) (messages_at M zs) (flat_map (placed (telling M)) zs) (lines_are M zs)

-- What is known of a message: its label is not empty and has few generals.
record IsSmall (x : Message) : Type 0 where
  some : (g : ℕ) × (gs : List ℕ) × (x.label ≡ g ∷ gs)
  few : AreFew x.label
  receiver : x.receiver < 13
  order : x.order < 2 ^ 32

small : (n m c : ℕ) (z : Place) (v : ℕ) → n ≤ 13 → v < 2 ^ 32 → is_place_of n m c z.0 z.1 ≡ true → IsSmall (message z v)
small n m c z v l lv e =
    let off = and_parts (fits n m c z.0 && nat_lt z.1 n) (not (on z.0 z.1)) e in
    let general = and_parts (fits n m c z.0) (nat_lt z.1 n) off.0 in
    let short = and_parts (is_distinct z.0 && begins_with c z.0 && list_all (λ y. nat_lt y n) z.0) (nat_le (length z.0) (m + 1)) general.0 in
    let below = and_parts (is_distinct z.0 && begins_with c z.0) (list_all (λ y. nat_lt y n) z.0) short.0 in
    let first = and_parts (is_distinct z.0) (begins_with c z.0) below.0 in
    let receiver : z.1 < n = ltb-true z.1 n general.1 in
    record { some = begun_some c z.0 first.1; few = few_all n z.0 l below.1; receiver = omega arith; order = lv }

line_read : (x : Message) → IsSmall x → message_of (tell_of x) ≡ Some x
line_read x s =
    let few = s.few in
    ap (λ w. message_of (tell w x.receiver x.order)) s.some.2
    ∙ (message_read s.some.0 s.some.1 x.receiver x.order (rw s.some.2 at few) s.receiver s.order
    ∙ ap (λ w. Some (record { label = w; receiver = x.receiver; order = x.order })) (sym s.some.2))

lines_lack : (xs : List Message) → AllByRecursion IsSmall xs → AllByRecursion (Lacks feed) (map tell_of xs)
lines_lack [] a = tt
lines_lack (x ∷ xs) a = (tell_lacks x.label x.receiver x.order a.0.few a.0.receiver a.0.order, lines_lack xs a.1)

-- A message is about no other place.
elsewhere : (z y : Place) (v : ℕ) → z ≢ y → is_about y.0 y.1 (message z v) ≡ false
elsewhere z y v ne = elim (cases_Bool (is_about y.0 y.1 (message z v))) [
  | inl it ↦
      let both = and_parts (z.1 == y.1) (bytes_eq z.0 y.0) it in
      let p : z.1 ≡ y.1 = eqb-true z.1 y.1 both.0 in
      let w : z.0 ≡ y.0 = (bytes_eq-Decides z.0 y.0).0 both.1 in
      let same : z ≡ y = ap (λ v. (v, z.1)) w ∙ ap (λ q. (y.0, q)) p in
      absurd (ne same)
  | inr fails ↦ fails
]

-- No later message is about the place of an earlier one.
abbrev Apart : List Message → Type 0
Apart [] = Unit {0}
Apart (x ∷ xs) = AllByRecursion (λ y. is_about y.label y.receiver x ≡ false) xs × Apart xs

apart_more : (z : Place) (o : Option ℕ) (ms : List Message) → ((v : ℕ) → o ≡ Some v → AllByRecursion (λ y. is_about y.label y.receiver (message z v) ≡ false) ms) → Apart ms → Apart (told_more z o ms)
apart_more z None ms new a = a
apart_more z (Some v) ms new a = (new v refl, a)

are_apart : (M : Messages) (zs : List Place) → AllDiffer zs → Apart (messages_at M zs)
are_apart M [] d = tt
are_apart M (z ∷ zs) d =
    apart_more z (M z.0 z.1) (messages_at M zs)
    (λ v e. all_messages M (λ y. is_about y.label y.receiver (message z v) ≡ false) zs (weaker (λ y. z ≢ y) (λ y. (u : ℕ) → M y.0 y.1 ≡ Some u → is_about y.0 y.1 (message z v) ≡ false) zs (λ y ne u i. elsewhere z y v ne) d.0))
    (are_apart M zs d.1)

-- No message is about the place of one of these.
abbrev AreNew : List Message → List Message → Type 0
AreNew messages xs = AllByRecursion (λ x. list_any (is_about x.label x.receiver) messages ≡ false) xs

new_more : (messages : List Message) (x : Message) (xs : List Message) → AreNew messages xs → AllByRecursion (λ y. is_about y.label y.receiver x ≡ false) xs → AreNew (messages ++ x ∷ []) xs
new_more messages x [] a d = tt
new_more messages x (y ∷ ys) a d = (
  list_any-append (is_about y.label y.receiver) messages (x ∷ []) ∙ or_from (list_any (is_about y.label y.receiver) messages) (list_any (is_about y.label y.receiver) (x ∷ [])) a.0 (or_from (is_about y.label y.receiver x) false d.0 refl),
  new_more messages x ys a.1 d.1,
)

none_before : (xs : List Message) → AreNew [] xs
none_before [] = tt
none_before (x ∷ xs) = (refl, none_before xs)

abbrev with_all : MessageTable → List Message → MessageTable
with_all t more = record t { messages = t.messages ++ more }

-- The lines are read one after the other.
lines_are_told : (xs : List Message) (t : MessageTable) (number : ℕ)
    → AllByRecursion (λ x. is_place t x.label x.receiver ≡ true) xs → AllByRecursion IsSmall xs → Apart xs → AreNew t.messages xs → lines_told t number (map tell_of xs) ≡ Ok (with_all t xs)
lines_are_told [] t number places smalls apart new = ap (λ ms. Ok (record t { messages = ms })) (sym (append-nil t.messages))
lines_are_told (x ∷ xs) t number places smalls apart new =
    let good : checked t (message_of (tell_of x)) ≡ Ok x = rw (line_read x smalls.0, places.0, new.0) refl in
    let next : MessageTable = with_message t x in
    let rest : lines_told next (suc number) (map tell_of xs) ≡ Ok (with_all next xs) = lines_are_told xs next (suc number) places.1 smalls.1 apart.1 (new_more t.messages x xs new.1 apart.0) in
    rw good (rest ∙ ap (λ ms. Ok (record t { messages = ms })) (append_assoc t.messages (x ∷ []) xs))

-- The place itself.
same_place : (z : Place) (w : List ℕ) (p : ℕ) → (z.1 == p && bytes_eq z.0 w) ≡ true → (z.0 ≡ w) × (z.1 ≡ p)
same_place z w p it =
    let both = and_parts (z.1 == p) (bytes_eq z.0 w) it in
    ((bytes_eq-Decides z.0 w).0 both.1, eqb-true z.1 p both.0)

nothing : (b : Bool) (o : Option ℕ) → o ≡ None → cond b o None ≡ None
nothing true o e = e
nothing false o e = refl

-- One more place.
found_more : (M : Messages) (w : List ℕ) (p : ℕ) (z : Place) (zs : List Place) (o : Option ℕ) (ms : List Message) → M z.0 z.1 ≡ o → told ms w p ≡ cond (is_in w p zs) (M w p) None → told (told_more z o ms) w p ≡ cond (is_in w p (z ∷ zs)) (M w p) None
unfolding told
found_more M w p z zs None ms e rest = elim (cases_Bool (z.1 == p && bytes_eq z.0 w)) [
  | inl here ↦
      let same = same_place z w p here in
      let none : M w p ≡ None = ap (λ v. M v p) (sym same.0) ∙ (ap (λ q. M z.0 q) (sym same.1) ∙ e) in
      rest ∙ (nothing (is_in w p zs) (M w p) none ∙ (sym none ∙ sym (cond-true ((z.1 == p && bytes_eq z.0 w) || is_in w p zs) (M w p) None (rw here refl))))
  | inr apart ↦ rest ∙ ap (λ b. cond b (M w p) None) (sym (rw apart refl))
]
found_more M w p z zs (Some v) ms e rest = elim (cases_Bool (z.1 == p && bytes_eq z.0 w)) [
  | inl here ↦
      let same = same_place z w p here in
      let some : M w p ≡ Some v = ap (λ u. M u p) (sym same.0) ∙ (ap (λ q. M z.0 q) (sym same.1) ∙ e) in
      ap (option_map (λ x. x.order)) (cond-true (is_about w p (message z v)) (Some (message z v)) (find (is_about w p) ms) here)
      ∙ (sym some ∙ sym (cond-true ((z.1 == p && bytes_eq z.0 w) || is_in w p zs) (M w p) None (rw here refl)))
  | inr apart ↦
      ap (option_map (λ x. x.order)) (cond-false (is_about w p (message z v)) (Some (message z v)) (find (is_about w p) ms) apart)
      ∙ (rest ∙ ap (λ b. cond b (M w p) None) (sym (rw apart refl)))
]

pub found : (M : Messages) (w : List ℕ) (p : ℕ) (zs : List Place) → told (messages_at M zs) w p ≡ cond (is_in w p zs) (M w p) None
unfolding told
found M w p [] = refl
found M w p (z ∷ zs) = found_more M w p z zs (M z.0 z.1) (messages_at M zs) refl (found M w p zs)

-- Labels begin with the commander.
begins_from : (c : ℕ) (w : List ℕ) → BeginsWith c w → begins_with c w ≡ true
begins_from c [] b = absurd b
begins_from c (x ∷ xs) b = eq-eqb x c b

below_from : (n : ℕ) (w : List ℕ) → AllBelow n w → list_all (λ x. nat_lt x n) w ≡ true
below_from n [] b = refl
below_from n (x ∷ xs) b = and_from (nat_lt x n) (list_all (λ y. nat_lt y n) xs) (lt-ltb x n b.0) (below_from n xs b.1)

pub place_from : (n m c : ℕ) (w : List ℕ) (p : ℕ) → IsLabel n c w → p < n → on w p ≡ false → length w ≤ m + 1 → is_place_of n m c w p ≡ true
place_from n m c w p label general off short =
    and_from (fits n m c w && nat_lt p n) (not (on w p))
    (and_from (fits n m c w) (nat_lt p n)
    (and_from (is_distinct w && begins_with c w && list_all (λ x. nat_lt x n) w) (nat_le (length w) (m + 1))
    (and_from (is_distinct w && begins_with c w) (list_all (λ x. nat_lt x n) w) (and_from (is_distinct w) (begins_with c w) label.distinct (begins_from c w label.first)) (below_from n w label.below))
    (le-leb (length w) (m + 1) short)) (lt-ltb p n general)) (rw off refl)

-- The label that consists of the commander.
pub first_label : (n c : ℕ) → c < n → IsLabel n c (c ∷ [])
first_label n c l = record { first = refl; below = (l, tt); distinct = refl }

pub apart_first : (c p : ℕ) → p ≢ c → on (c ∷ []) p ≡ false
apart_first c p ne = or_from (c == p) false (ne_eqb c p (λ e. ne (sym e))) refl

-- Decisions depend only on what is received at places.
pub decides_same : (f : List ℕ → ℕ) (n m c p : ℕ) (M N : Messages) → c < n → p < n → p ≢ c → ((w : List ℕ) (q : ℕ) → is_place_of n m c w q ≡ true → M w q ≡ N w q) → om f n M m (c ∷ []) p ≡ om f n N m (c ∷ []) p
decides_same f n m c p M N lc lp ne same =
    om-same f n c (m + 1) p M N (λ w label off short. ap order_of (same w p (place_from n m c w p label lp off short))) m (c ∷ []) (first_label n c lc) (apart_first c p ne) (omega arith)

pub limits : (n m c : ℕ) → is_within n m c ≡ true → AreNumbersWithin n m c
limits n m c within =
    let last = and_parts (nat_le n 13 && nat_le m 4 && nat_le (m + 2) n) (nat_lt c n) within in
    let middle = and_parts (nat_le n 13 && nat_le m 4) (nat_le (m + 2) n) last.0 in
    let first = and_parts (nat_le n 13) (nat_le m 4) middle.0 in
    record { few = leb-true n 13 first.0; rounds = leb-true m 4 first.1; relays = leb-true (m + 2) n middle.1; present = ltb-true c n last.1 }

pub within : (n m c : ℕ) → AreNumbersWithin n m c → is_within n m c ≡ true
within n m c w =
    and_from (nat_le n 13 && nat_le m 4 && nat_le (m + 2) n) (nat_lt c n)
    (and_from (nat_le n 13 && nat_le m 4) (nat_le (m + 2) n) (and_from (nat_le n 13) (nat_le m 4) (le-leb n 13 w.few) (le-leb m 4 w.rounds)) (le-leb (m + 2) n w.relays))
    (lt-ltb c n w.present)

-- The table is read again.
pub read_again : (M : Messages) → AreOrders M → (n m c : ℕ) (rule : Rule) → is_within n m c ≡ true → table_told (table_text M n m c rule) ≡ Ok (collected M n m c rule)
unfolding table_told
read_again M orders n m c rule inside =
    let limit = limits n m c inside in
    let few : n ≤ 13 = limit.few in
    let rounds : m ≤ 4 = limit.rounds in
    let present : c < n = limit.present in
    let empty : MessageTable = record { generals = n; bound = m; commander = c; rule = rule; messages = [] } in
    let good : AllByRecursion (λ z. is_place_of n m c z.0 z.1 ≡ true) (places n m c) = are_places n m c present in
    let there : AllByRecursion (λ x. is_place empty x.label x.receiver ≡ true) (messages_at M (places n m c)) =
    all_messages M (λ x. is_place empty x.label x.receiver ≡ true) (places n m c) (weaker (λ z. is_place_of n m c z.0 z.1 ≡ true) (λ z. (v : ℕ) → M z.0 z.1 ≡ Some v → is_place_of n m c z.0 z.1 ≡ true) (places n m c) (λ z e v i. e) good)
    in
    let smalls : AllByRecursion IsSmall (messages_at M (places n m c)) =
    all_messages M IsSmall (places n m c) (weaker (λ z. is_place_of n m c z.0 z.1 ≡ true) (λ z. (v : ℕ) → M z.0 z.1 ≡ Some v → IsSmall (message z v)) (places n m c) (λ z e v i. small n m c z v few (orders z.0 z.1 v i) e) good)
    in
    let ln : n < 2 ^ 64 = omega arith in
    let lm : m < 2 ^ 64 = omega arith in
    let lc : c < 2 ^ 64 = omega arith in
    let text = written_is (telling M) n m c rule ∙ ap (λ ys. first_line n m c rule ++ ys) (lines_are M (places n m c)) in
    let lines = ap lines_of text ∙ lines_read (head n m c rule ∷ map tell_of (messages_at M (places n m c))) (head_lacks n m c rule ln lm lc, lines_lack (messages_at M (places n m c)) smalls) in
    let all = lines_are_told (messages_at M (places n m c)) empty 2 there smalls (are_apart M (places n m c) (places_differ n m c)) (none_before (messages_at M (places n m c))) in
    rw (lines, head_read n m c rule ln lm lc, inside) all

-- What it has at the places of the campaign.
pub collected_tells : (M : Messages) (n m c : ℕ) (w : List ℕ) (p : ℕ) → is_place_of n m c w p ≡ true → told (messages_at M (places n m c)) w p ≡ M w p
collected_tells M n m c w p e = found M w p (places n m c) ∙ cond-true (is_in w p (places n m c)) (M w p) None (all_found n m c w p e)

-- The law, as specs/WrittenLaws states it.
pub proved_tables_are_read : TablesAreRead
unfolding decision_of
proved_tables_are_read M orders n m c rule inside = (
  collected M n m c rule,
  read_again M orders n m c rule inside,
  record {
    generals = refl;
    bound = refl;
    commander = refl;
    rule = refl;
    told = collected_tells M n m c;
    decides = λ p lp ne. decides_same (combined_by rule) n m c p (told (messages_at M (places n m c))) M (limits n m c inside).present lp ne (collected_tells M n m c);
  },
)
