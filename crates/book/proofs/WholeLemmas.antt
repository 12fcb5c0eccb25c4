-- A table that is read is well-formed.
use Rattle.std.proofs.Common.{◌≡◌, ◌+◌, ◌^◌, ◌<◌, ℕ, suc, Bool, true, false, not, ◌&&◌, List, [], ◌∷◌, ◌++◌, length, Option, Some, None, refl, ap, subst, ◌∙◌, arith}
use Rattle.std.specs.Prelude.{Result, Ok, Err, nat_lt, nat_le, bytes_eq, if◌then◌else◌}
use Rattle.std.specs.List.{list_all, list_any, AllByRecursion}
use Rattle.std.proofs.lemmas.Bool.{and_parts, not-true, leb-true, ltb-true, or_from, or_parts}
use Rattle.std.proofs.lemmas.Bool.Decides.{nat_tests}
use Rattle.combine.specs.declared.campaign_rule.Rule.{Rule}
use Rattle.text.specs.Options.{◌>>=◌}
use Rattle.text.specs.Stop.{space, dot}
use Rattle.text.specs.Parts.{pieces, lines_of}
use Rattle.text.specs.Number.{decimal_of}
use Rattle.label.specs.Labels.{on, is_distinct}
use Rattle.label.specs.Space.{begins_with}
use Rattle.label.proofs.Counts.{begins, below}
use Rattle.book.specs.declared.message.Message.{Message}
use Rattle.book.specs.declared.fault.TableFault.{TableFault}
use Rattle.book.specs.declared.fault.TableFault.TheVariants.{Range, Place, Twice}
use Rattle.book.specs.declared.fault.TableError.{TableError}
use Rattle.book.specs.declared.fault.TableError.TheVariants.{At}
use Rattle.book.specs.Table.{MessageTable, AreNumbersWithin, is_about}
use Rattle.book.specs.Grammar.{head_of, is_within, opened, tell_parts, numbers_of, order_in, message_of, is_place, checked, at_line, faultless, with_message, lines_told, told_by_lines, table_told}
use Rattle.book.specs.Laws.{IsMessage, EachOnce, IsWholeTable, ToldTablesAreWhole}

-- A step after another.
no_fault : {A B : Type 0} (r : Result A TableError) (f : A → Result B TableError) (u : B) → faultless r f ≡ Ok u → (x : A) × (r ≡ Ok x) × (f x ≡ Ok u)
no_fault (Ok x) f u e = (x, refl, e)
no_fault (Err x) f u e = cc

-- A line without a fault.
pub line_ok : {A : Type 0} (number : ℕ) (r : Result A TableFault) (x : A) → at_line number r ≡ Ok x → r ≡ Ok x
line_ok number (Ok y) x e = let same : y ≡ x = cc in ap Ok same
line_ok number (Err fault) x e = cc

limits : (n m c : ℕ) → is_within n m c ≡ true → AreNumbersWithin n m c
limits n m c e =
    let last = and_parts (nat_le n 13 && nat_le m 4 && nat_le (m + 2) n) (nat_lt c n) e in
    let middle = and_parts (nat_le n 13 && nat_le m 4) (nat_le (m + 2) n) last.0 in
    let first = and_parts (nat_le n 13) (nat_le m 4) middle.0 in
    record { few = leb-true n 13 first.0; rounds = leb-true m 4 first.1; relays = leb-true (m + 2) n middle.1; present = ltb-true c n last.1 }

ok_same : (x y : MessageTable) → ◌≡◌ {A = Result MessageTable TableError} (Ok x) (Ok y) → x ≡ y
ok_same x y e = cc

head_whole : (n m c : ℕ) (rule : Rule) (t : MessageTable) (b : Bool) → is_within n m c ≡ b → (if b then Ok (record { generals = n; bound = m; commander = c; rule = rule; messages = [] }) else Err (At Range 1)) ≡ Ok t → IsWholeTable t
head_whole n m c rule t true h e =
    let empty : MessageTable = record { generals = n; bound = m; commander = c; rule = rule; messages = [] } in
    let made : IsWholeTable empty = record { within = limits n m c h; messages = tt; once = tt } in
    subst IsWholeTable (ok_same empty t e) made
head_whole n m c rule t false h e = cc

opened_whole : (head : Option (ℕ × ℕ × ℕ × Rule)) (t : MessageTable) → opened head ≡ Ok t → IsWholeTable t
opened_whole None t e = cc
opened_whole (Some h) t e = head_whole h.0 h.1 h.2 h.3 t (is_within h.0 h.1 h.2) refl e

picked : (said x : Message) (place again : Bool) → (if place then (if again then Err Twice else Ok said) else Err Place) ≡ Ok x → (said ≡ x) × (place ≡ true) × (again ≡ false)
picked said x true true e = cc
picked said x true false e = (cc, refl, refl)
picked said x false again e = cc

-- A message without a fault is about a place that no earlier one is about.
pub checked_parts : (t : MessageTable) (o : Option Message) (x : Message) → checked t o ≡ Ok x
    → (o ≡ Some x) × (is_place t x.label x.receiver ≡ true) × (list_any (is_about x.label x.receiver) t.messages ≡ false)
checked_parts t None x e = cc
checked_parts t (Some said) x e =
    let p = picked said x (is_place t said.label said.receiver) (list_any (is_about said.label said.receiver) t.messages) e in
    let P : Message → Type 0 = λ v. is_place t v.label v.receiver ≡ true in
    let Q : Message → Type 0 = λ v. list_any (is_about v.label v.receiver) t.messages ≡ false in
    (ap Some p.0, subst P p.0 p.1, subst Q p.0 p.2)

some_of : {A B : Type 0} (o : Option A) (f : A → Option B) (y : B) → (o >>= f) ≡ Some y → (a : A) × (o ≡ Some a) × (f a ≡ Some y)
some_of None f y e = cc
some_of (Some a) f y e = (a, refl, e)

small_if : (v x : ℕ) (b : Bool) → nat_lt v (2 ^ 32) ≡ b → (if b then Some v else None) ≡ Some x → x < 2 ^ 32
small_if v x true h e = let same : v ≡ x = cc in let l : v < 2 ^ 32 = ltb-true v (2 ^ 32) h in omega arith
small_if v x false h e = cc

order_small : (part : List ℕ) (v : ℕ) → order_in part ≡ Some v → v < 2 ^ 32
unfolding order_in
order_small part v e =
    let s = some_of (decimal_of part) (λ v. if nat_lt v (2 ^ 32) then Some v else None) v e in
    small_if s.0 v (nat_lt s.0 (2 ^ 32)) refl s.2

message_small : (line : List ℕ) (x : Message) → message_of line ≡ Some x → x.order < 2 ^ 32
unfolding message_of
message_small line x e =
    let a = some_of (tell_parts (pieces space line)) _ x e in
    let b = some_of (numbers_of (pieces dot a.0.0)) _ x a.2 in
    let c = some_of (decimal_of a.0.1) _ x b.2 in
    let d = some_of (order_in a.0.2) _ x c.2 in
    let made : Message = record { label = b.0; receiver = c.0; order = d.0 } in
    let same : made ≡ x = cc in
    let P : Message → Type 0 = λ v. v.order < 2 ^ 32 in
    subst P same (order_small a.0.2 d.0 d.1)

pub place_message : (t : MessageTable) (x : Message) → is_place t x.label x.receiver ≡ true → x.order < 2 ^ 32 → IsMessage t.generals t.bound t.commander x
place_message t x e l =
    let off = and_parts (is_distinct x.label && begins_with t.commander x.label && list_all (λ y. nat_lt y t.generals) x.label && nat_le (length x.label) (t.bound + 1) && nat_lt x.receiver t.generals) (not (on x.label x.receiver)) e in
    let general = and_parts (is_distinct x.label && begins_with t.commander x.label && list_all (λ y. nat_lt y t.generals) x.label && nat_le (length x.label) (t.bound + 1)) (nat_lt x.receiver t.generals) off.0 in
    let rounds = and_parts (is_distinct x.label && begins_with t.commander x.label && list_all (λ y. nat_lt y t.generals) x.label) (nat_le (length x.label) (t.bound + 1)) general.0 in
    let all = and_parts (is_distinct x.label && begins_with t.commander x.label) (list_all (λ y. nat_lt y t.generals) x.label) rounds.0 in
    let first = and_parts (is_distinct x.label) (begins_with t.commander x.label) all.0 in
    record {
      label = record { first = begins t.commander x.label first.1; below = below t.generals x.label all.1; distinct = first.0 };
      rounds = leb-true (length x.label) (t.bound + 1) rounds.1;
      general = ltb-true x.receiver t.generals general.1;
      off = not-true (on x.label x.receiver) off.1;
      order = l;
    }

all-push : (P : Message → Type 0) (xs : List Message) (y : Message) → AllByRecursion P xs → P y → AllByRecursion P (xs ++ y ∷ [])
all-push P [] y a p = (p, tt)
all-push P (x ∷ xs) y a p = (a.0, all-push P xs y a.1 p)

any-push : (t : Message → Bool) (xs : List Message) (y : Message) → list_any t xs ≡ false → t y ≡ false → list_any t (xs ++ y ∷ []) ≡ false
any-push t [] y a p = or_from (t y) false p refl
any-push t (x ∷ xs) y a p = let both = or_parts (t x) (list_any t xs) a in or_from (t x) (list_any t (xs ++ y ∷ [])) both.0 (any-push t xs y both.1 p)

pub bytes_sym : (xs ys : List ℕ) → bytes_eq xs ys ≡ bytes_eq ys xs
bytes_sym [] [] = refl
bytes_sym [] (y ∷ ys) = refl
bytes_sym (x ∷ xs) [] = refl
bytes_sym (x ∷ xs) (y ∷ ys) = grind (arith, nat_tests, bytes_sym xs ys)

about_sym : (x y : Message) → is_about x.label x.receiver y ≡ is_about y.label y.receiver x
about_sym x y = rw (bytes_sym y.label x.label) (grind (arith, nat_tests))

once-push : (xs : List Message) (y : Message) → EachOnce xs → list_any (is_about y.label y.receiver) xs ≡ false → EachOnce (xs ++ y ∷ [])
once-push [] y once new = (refl, tt)
once-push (x ∷ xs) y once new =
    let both = or_parts (is_about y.label y.receiver x) (list_any (is_about y.label y.receiver) xs) new in
    (any-push (is_about x.label x.receiver) xs y once.0 (about_sym x y ∙ both.0), once-push xs y once.1 both.1)

lines_whole : (lines : List (List ℕ)) (number : ℕ) (t u : MessageTable) → IsWholeTable t → lines_told t number lines ≡ Ok u → IsWholeTable u
lines_whole [] number t u w e = subst IsWholeTable (ok_same t u e) w
lines_whole (line ∷ lines) number t u w e =
    let s = no_fault (at_line number (checked t (message_of line))) (λ said. lines_told (with_message t said) (suc number) lines) u e in
    let c = checked_parts t (message_of line) s.0 (line_ok number (checked t (message_of line)) s.0 s.1) in
    let more : IsWholeTable (with_message t s.0) = record {
      within = w.within;
      messages = all-push (IsMessage t.generals t.bound t.commander) t.messages s.0 w.messages (place_message t s.0 c.1 (message_small line s.0 c.0));
      once = once-push t.messages s.0 w.once c.2;
    } in
    lines_whole lines (suc number) (with_message t s.0) u more s.2

told_whole : (lines : List (List ℕ)) (t : MessageTable) → told_by_lines lines ≡ Ok t → IsWholeTable t
told_whole [] t e = cc
told_whole (line ∷ lines) t e =
    let s = no_fault (opened (head_of line)) (λ u. lines_told u 2 lines) t e in
    lines_whole lines 2 s.0 t (opened_whole (head_of line) s.0 s.1) s.2

-- The law, as specs/Laws states it.
pub proved_told_tables_are_whole : ToldTablesAreWhole
unfolding table_told
proved_told_tables_are_whole text t e = told_whole (lines_of text) t e
