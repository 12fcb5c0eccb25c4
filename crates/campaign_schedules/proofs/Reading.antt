-- Parsing the text of a schedule gives this schedule again.
use Rattle.std.proofs.Common.{ℕ, suc, ◌+◌, ◌^◌, ◌<◌, ◌≤◌, ◌≡◌, true, false, not, ◌&&◌, List, [], ◌∷◌, ◌++◌, map, length, refl, sym, ap, subst, ◌∙◌, arith, append_assoc, append-nil, Some, Ok}
use Rattle.std.specs.Prelude.{nat_lt, nat_le, codes, decimal}
use Rattle.std.specs.List.{flat_map, AllByRecursion}
use Rattle.std.proofs.lemmas.Bool.Decides.{nat_tests}
use Rattle.text.specs.declared.stop.Stop.{Stop}
use Rattle.text.specs.Stop.{space, feed, is_stop, is_within}
use Rattle.text.specs.Parts.{pieces, lines_of}
use Rattle.text.proofs.BytesLemmas.{all-append}
use Rattle.text.proofs.CutLemmas.{Lacks, pieces-append, pieces-all}
use Rattle.text.proofs.DecimalLemmas.{decimal_of-decimal}
use Rattle.book.proofs.FormLemmas.{digits_lack, no_space, no_feed, lines_read}
use Rattle.world.specs.declared.schedule.Repeat.{Repeat}
use Rattle.campaign_orders.specs.Text.{entry_text, line_text, schedule_text}
use Rattle.trace.specs.Schedules.{star, number_within, entry_of, entries_told, line_told, schedule_lines_told, schedule_told}
use Rattle.campaign_schedules.specs.Reading.{IsEntry, SchedulesAreRead}

no_star : (c : ℕ) → is_within 48 57 c ≡ true → not (is_stop star c) ≡ true
no_star c h = grind (arith, nat_tests)

-- The text of an entry, and the text of a line without its line feed.
abbrev pair : Repeat → List ℕ
pair r = decimal r.general ++ codes "*" ++ decimal r.times

abbrev body : List Repeat → List ℕ
body [] = []
body (r ∷ line) = pair r ++ flat_map entry_text line

pair_is : (r : Repeat) → pair r ≡ decimal r.general ++ (42 ∷ decimal r.times)
pair_is r = append_assoc (decimal r.general) (42 ∷ []) (decimal r.times)

number_read : (least most n : ℕ) → least ≤ n → n ≤ most → n < 2 ^ 64 → number_within least most (decimal n) ≡ Some n
unfolding number_within
number_read least most n low high few =
    let a : nat_le least n && nat_le n most ≡ true = grind (arith, nat_tests) in
    rw (decimal_of-decimal n few, a) refl

pair_pieces : (r : Repeat) → IsEntry r → pieces star (pair r) ≡ decimal r.general ∷ decimal r.times ∷ []
pair_pieces r h =
    let g = h.general in
    let t = h.most in
    ap (pieces star) (pair_is r)
    ∙ pieces-append star (decimal r.general) 42 (decimal r.times) (digits_lack star no_star r.general (omega arith)) refl
    ∙ ap (λ ps. decimal r.general ∷ ps) (pieces-all star (decimal r.times) (digits_lack star no_star r.times (omega arith)))

entry_read : (r : Repeat) → IsEntry r → entry_of (pieces star (pair r)) ≡ Some r
entry_read r h =
    let g = h.general in
    let l = h.least in
    let t = h.most in
    rw (pair_pieces r h, number_read 0 12 r.general (omega arith) g (omega arith), number_read 1 4096 r.times l t (omega arith)) refl

pair_lacks : (stop : Stop) → ((c : ℕ) → is_within 48 57 c ≡ true → not (is_stop stop c) ≡ true) → not (is_stop stop 42) ≡ true → (r : Repeat) → IsEntry r → Lacks stop (pair r)
pair_lacks stop none other r h =
    let g = h.general in
    let t = h.most in
    let times : Lacks stop (42 ∷ decimal r.times) = rw other (digits_lack stop none r.times (omega arith)) in
    subst (Lacks stop) (sym (pair_is r)) (all-append (λ c. not (is_stop stop c)) (decimal r.general) (42 ∷ decimal r.times) (digits_lack stop none r.general (omega arith)) times)

body_pieces : (r : Repeat) (line : List Repeat) → IsEntry r → AllByRecursion IsEntry line → pieces space (body (r ∷ line)) ≡ pair r ∷ map pair line
body_pieces r [] h hs = ap (pieces space) (append-nil (pair r)) ∙ pieces-all space (pair r) (pair_lacks space no_space refl r h)
body_pieces r (q ∷ line) h hs =
    pieces-append space (pair r) 32 (body (q ∷ line)) (pair_lacks space no_space refl r h) refl ∙ ap (λ ps. pair r ∷ ps) (body_pieces q line hs.0 hs.1)

entries_read : (before line : List Repeat) → AllByRecursion IsEntry line → entries_told before (map pair line) ≡ Some (before ++ line)
entries_read before [] h = ap Some (sym (append-nil before))
entries_read before (r ∷ line) h = rw (entry_read r h.0) (entries_read (before ++ r ∷ []) line h.1 ∙ ap Some (append_assoc before (r ∷ []) line))

not_empty : (xs : List ℕ) → 0 < length xs → line_told xs ≡ entries_told [] (pieces space xs)
not_empty [] l = absurd (omega arith)
not_empty (c ∷ cs) l = refl

some_more : (xs ys : List ℕ) (c : ℕ) → 0 < length (xs ++ c ∷ ys)
some_more [] ys c = omega arith
some_more (x ∷ xs) ys c = omega arith

line_read : (line : List Repeat) → AllByRecursion IsEntry line → line_told (body line) ≡ Some line
line_read [] h = refl
line_read (r ∷ line) h =
    let F = flat_map entry_text line in
    let same : body (r ∷ line) ≡ decimal r.general ++ (42 ∷ decimal r.times ++ F) = ap (λ xs. xs ++ F) (pair_is r) ∙ append_assoc (decimal r.general) (42 ∷ decimal r.times) F in
    let there : 0 < length (body (r ∷ line)) = subst (λ xs. 0 < length xs) (sym same) (some_more (decimal r.general) (decimal r.times ++ F) 42) in
    not_empty (body (r ∷ line)) there ∙ ap (entries_told []) (body_pieces r line h.0 h.1) ∙ entries_read [] (r ∷ line) h

line_is : (line : List Repeat) → line_text line ≡ body line ++ 10 ∷ []
line_is [] = refl
line_is (r ∷ line) = refl

schedule_is : (lines : List (List Repeat)) → schedule_text lines ≡ flat_map (λ l. l ++ 10 ∷ []) (map body lines)
schedule_is [] = refl
schedule_is (line ∷ lines) = λ i. line_is line i ++ schedule_is lines i

flat_lacks : (line : List Repeat) → AllByRecursion IsEntry line → Lacks feed (flat_map entry_text line)
flat_lacks [] h = refl
flat_lacks (r ∷ line) h = all-append (λ c. not (is_stop feed c)) (entry_text r) (flat_map entry_text line) (pair_lacks feed no_feed refl r h.0) (flat_lacks line h.1)

body_lacks : (line : List Repeat) → AllByRecursion IsEntry line → Lacks feed (body line)
body_lacks [] h = refl
body_lacks (r ∷ line) h = all-append (λ c. not (is_stop feed c)) (pair r) (flat_map entry_text line) (pair_lacks feed no_feed refl r h.0) (flat_lacks line h.1)

bodies_lack : (lines : List (List Repeat)) → AllByRecursion (AllByRecursion IsEntry) lines → AllByRecursion (Lacks feed) (map body lines)
bodies_lack [] h = tt
bodies_lack (line ∷ lines) h = (body_lacks line h.0, bodies_lack lines h.1)

lines_told : (before lines : List (List Repeat)) (number : ℕ) → AllByRecursion (AllByRecursion IsEntry) lines → number + length lines ≤ 6 → schedule_lines_told before number (map body lines) ≡ Ok (before ++ lines)
lines_told before [] number h few = ap Ok (sym (append-nil before))
lines_told before (line ∷ lines) number h few =
    let within : nat_lt 5 number ≡ false = grind (arith, nat_tests) in
    rw (line_read line h.0, within) (lines_told (before ++ line ∷ []) lines (suc number) h.1 (omega arith) ∙ ap Ok (append_assoc before (line ∷ []) lines))

pub proved_schedules_are_read : SchedulesAreRead
unfolding schedule_told
proved_schedules_are_read lines h five short =
    let small : nat_le (length (schedule_text lines)) 1048576 ≡ true = grind (arith, nat_tests) in
    let cut : lines_of (schedule_text lines) ≡ map body lines = ap lines_of (schedule_is lines) ∙ lines_read (map body lines) (bodies_lack lines h) in
    rw (small, cut) (lines_told [] lines 1 h (omega arith))
