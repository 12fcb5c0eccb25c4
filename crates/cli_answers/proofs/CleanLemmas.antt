-- The JSON objects of printed lines have no floats.
use Rattle.std.proofs.Common.{◌≡◌, ℕ, Bool, true, false, List, [], ◌∷◌, Option, None, Some, Ordering, Less, Equal, Greater, option_map, option_and_then, bytes_eq, codes, refl}
use Rattle.std.specs.Option.{option_or}
use Rattle.std.specs.Prelude.{drop, take, if◌then◌else◌, ◌||◌, ◌==◌, is_some, length, slice_get}
use Rattle.std.specs.Str.Lossy.{utf8_lossy}
use Rattle.std.specs.Cmp.Lexicographic.{slice_cmp}
use Rattle.std.specs.Ordering.{match_ordering, nat_cmp}
use Rattle.serde_json.specs.Data.{Data, null, boolean, number, object, unsigned, string, array, Items, no_items, item, Members, no_members, member, put}
use Rattle.serde_json.specs.Written.{has_float, items_have_float, members_have_float}
use Rattle.combine.specs.Names.{rule_named}
use Rattle.text.specs.Parts.{before, from, lines_of, pieces}
use Rattle.text.specs.Stop.{colon, comma, dot, feed, semicolon, space}
use Rattle.cli_answers.specs.declared.position.Held.{Held}
use Rattle.cli_answers.specs.declared.shape.Within.{Within}
use Rattle.cli_answers.specs.declared.shape.Within.TheVariants.{Nothing, Round, Letter, Outbox, General}
use Rattle.cli_answers.specs.Labels.{at_first, label_of, number_at, numbers, placed, with_label, with_number}
use Rattle.cli_answers.specs.Lines.{with_file}
use Rattle.cli_answers.specs.Advice.{edit, edit_by, edit_of, fact_of, help_of, instructions, is_fact, judged_at, judged_of, last_piece, note_of, quote, unit_before, unit_replaced, with_edit, with_explanation, with_help, with_judged, with_judgement}
use Rattle.cli_answers.specs.Explanations.{entry_of, labelled, list_object, reason_in, reasoned, with_entries}
use Rattle.cli_answers.specs.Instructions.{arrow, behind_place, each, instruction_at, instruction_object, line_in, place_in, shown, trimmed, unit_of, with_instruction, with_item, with_parts, with_source, with_source_line, with_unit}
use Rattle.cli_answers.specs.Objects.{explanation_object, line_object, or, other_object, unshaped}
use Rattle.cli_answers.specs.Shaped.{first_by, first_shaped, shaped, told_by, with_mark, with_name}
use Rattle.cli_answers.specs.Refusals.{class_of, fault_object, is_keyed, is_unsafe, namer, namer_of, numbered, placed_refusal, refusal_object, refused_object, reported, sentence_of, why, with_advice, with_namer, with_sentence, with_verified}
use Rattle.cli_answers.specs.Shapes.{Row, accesses, entry, error_places, reasons, received, shapes}
use Rattle.cli_answers.specs.Texts.{behind_stop, called, with_text}
use Rattle.cli_answers.specs.Values.{Word, all, before_comma, joined, number_of, numbers_of, place_of, places, power_of, received_of, rule_of, small, told, yes_no_of}

abbrev IsClean : Option Data → Type 0
IsClean None = Unit {0}
IsClean (Some d) = has_float d ≡ false

abbrev AreClean : Option Items → Type 0
AreClean None = Unit {0}
AreClean (Some ds) = items_have_float ds ≡ false

abbrev HaveClean : Option Members → Type 0
HaveClean None = Unit {0}
HaveClean (Some ms) = members_have_float ms ≡ false

either : {X : Type 0} (P : X → Type 0) (b : Bool) (x y : X) → P x → P y → P (if b then x else y)
either P true x y a b = a
either P false x y a b = b

put_at : (o : Ordering) (k l : List ℕ) (d e : Data) (ms more : Members) → has_float d ≡ false → has_float e ≡ false → members_have_float ms ≡ false → members_have_float more ≡ false
    → members_have_float (match_ordering o (member k d (member l e ms)) (member l d ms) (member l e more)) ≡ false
put_at Less k l d e ms more a b c f = rw (a, b, c) refl
put_at Equal k l d e ms more a b c f = rw (a, c) refl
put_at Greater k l d e ms more a b c f = rw (b, f) refl

first_clean : (d : Bool) (rest : Bool) → (d || rest) ≡ false → d ≡ false
first_clean false rest h = refl
first_clean true rest h = h

rest_clean : (d : Bool) (rest : Bool) → (d || rest) ≡ false → rest ≡ false
rest_clean false rest h = h
rest_clean true rest h = absurd (let e = h in cc)

pub put_clean : (k : List ℕ) (d : Data) (ms : Members) → has_float d ≡ false → members_have_float ms ≡ false → members_have_float (put k d ms) ≡ false
put_clean k d no_members a b = rw a refl
put_clean k d (member l e ms) a b =
    let here = first_clean (has_float e) (members_have_float ms) b in
    let more = rest_clean (has_float e) (members_have_float ms) b in
    put_at (slice_cmp nat_cmp k l) k l d e ms (put k d ms) a here more (put_clean k d ms a more)

number_clean : (o : Option ℕ) → IsClean (option_map (λ n. number (unsigned n)) o)
number_clean None = tt
number_clean (Some n) = refl

all_step : (o : Option Data) (rest : Option Items) → IsClean o → AreClean rest → AreClean (option_and_then (λ d. option_map (item d) rest) o)
all_step None rest a b = tt
all_step (Some d) None a b = tt
all_step (Some d) (Some ds) a b = rw (a, b) refl

all_clean : (tells : Word → Option Data) → ((w : Word) → IsClean (tells w)) → (ws : List Word) → AreClean (all tells ws)
all_clean tells each [] = refl
all_clean tells each (w ∷ ws) = all_step (tells w) (all tells ws) (each w) (all_clean tells each ws)

array_clean : (o : Option Items) → AreClean o → IsClean (option_map array o)
array_clean None a = tt
array_clean (Some ds) a = a

place_clean : (w : Word) → IsClean (place_of w)
place_clean w = either IsClean (bytes_eq w (codes "-")) (Some null) (number_of w) refl (number_clean (small w))

yes_no_clean : (w : Word) → IsClean (yes_no_of w)
yes_no_clean w =
    either IsClean (bytes_eq w (codes "-")) (Some null) _ refl
    (either IsClean (bytes_eq w (codes "yes")) (Some (boolean true)) _ refl
    (either IsClean (bytes_eq w (codes "no")) (Some (boolean false)) None refl tt))

received_clean : (w : Word) → IsClean (received_of w)
received_clean w = either IsClean (bytes_eq w (codes "nothing")) (Some null) (number_of w) refl (number_clean (small w))

before_clean : (o : Option Word) → IsClean (option_and_then number_of o)
before_clean None = tt
before_clean (Some w) = number_clean (small w)

numbers_of_clean : (w : Word) → IsClean (numbers_of w)
numbers_of_clean w = array_clean (all number_of (pieces dot w)) (all_clean number_of (λ v. number_clean (small v)) (pieces dot w))

joined_clean : (w : Word) → IsClean (joined w)
joined_clean w = either IsClean (bytes_eq w (codes "-")) (Some (array no_items)) _ refl (numbers_of_clean w)

pub places_clean : (ws : List Word) → IsClean (places ws)
places_clean ws = array_clean (all place_of ws) (all_clean place_of place_clean ws)

rule_clean : (w : Word) → IsClean (rule_of w)
rule_clean w = either IsClean (is_some (rule_named w)) (Some (string (utf8_lossy w))) None refl tt

power_clean : (w : Word) → IsClean (power_of w)
power_clean w =
    either IsClean (bytes_eq (take 2 w) (codes "2^")) (number_of (drop 2 w)) None (number_clean (small (drop 2 w))) tt

pub told_clean : (k w : Word) → IsClean (told k w)
unfolding told
told_clean k w =
    either IsClean (bytes_eq k (codes "N")) (number_of w) _ (number_clean (small w))
    (either IsClean (bytes_eq k (codes "P")) (place_of w) _ (place_clean w)
    (either IsClean (bytes_eq k (codes "A")) (yes_no_of w) _ (yes_no_clean w)
    (either IsClean (bytes_eq k (codes "S")) (joined w) _ (joined_clean w)
    (either IsClean (bytes_eq k (codes "C")) (rule_of w) _ (rule_clean w)
    (either IsClean (bytes_eq k (codes "E")) (power_of w) _ (power_clean w)
    (either IsClean (bytes_eq k (codes "N,")) (option_and_then number_of (before_comma w)) _ (before_clean (before_comma w))
    (either IsClean (bytes_eq k (codes "O")) (received_of w) _ (received_clean w)
    (either IsClean (bytes_eq k (codes "W")) (Some (string (utf8_lossy w))) _ refl
    (either IsClean (bytes_eq w k) (Some (string (utf8_lossy w))) None refl tt)))))))))

abbrev NoFloat : Members → Type 0
NoFloat ms = members_have_float ms ≡ false

name_clean : (n : Word) (d : Data) (ms : Members) → has_float d ≡ false → NoFloat ms → NoFloat (with_name n d ms)
name_clean n d ms a b = either NoFloat (bytes_eq n (codes "-")) ms (put n d ms) b (put_clean n d ms a b)

star_clean : (n : Word) (ms : Members) (o : Option Data) → NoFloat ms → IsClean o → HaveClean (option_map (λ d. with_name n d ms) o)
star_clean n ms None b a = tt
star_clean n ms (Some d) b a = name_clean n d ms a b

then_clean : (n : Word) (ms : Members) (o : Option Data) (rest : Members → Option Members) → NoFloat ms → IsClean o → ((next : Members) → NoFloat next → HaveClean (rest next))
    → HaveClean (option_and_then (λ d. rest (with_name n d ms)) o)
then_clean n ms None rest b a each = tt
then_clean n ms (Some d) rest b a each = each (with_name n d ms) (name_clean n d ms a b)

told_by_clean : (ps : List (List ℕ × List ℕ)) (ws : List Word) (ms : Members) → NoFloat ms → HaveClean (told_by ps ws ms)
told_by_clean [] [] ms b = b
told_by_clean [] (w ∷ ws) ms b = tt
told_by_clean (p ∷ ps) [] ms b = either HaveClean (bytes_eq p.0 (codes "*")) (option_map (λ d. with_name p.1 d ms) (places [])) None (star_clean p.1 ms (places []) b (places_clean [])) tt
told_by_clean (p ∷ ps) (w ∷ ws) ms b =
    either HaveClean (bytes_eq p.0 (codes "*")) (option_map (λ d. with_name p.1 d ms) (places (w ∷ ws))) (option_and_then (λ d. told_by ps ws (with_name p.1 d ms)) (told p.0 w))
    (star_clean p.1 ms (places (w ∷ ws)) b (places_clean (w ∷ ws)))
    (then_clean p.1 ms (told p.0 w) (told_by ps ws) b (told_clean p.0 w) (λ next c. told_by_clean ps ws next c))

mark_clean : (r : Row) (ms : Members) → NoFloat ms → NoFloat (with_mark r ms)
mark_clean r ms b = either NoFloat (length r.mark == 0) ms (put r.mark (boolean r.holds) ms) b (put_clean r.mark (boolean r.holds) ms refl b)

shaped_clean : (r : Row) (ws : List Word) → HaveClean (shaped r ws)
unfolding shaped
shaped_clean r ws = told_by_clean r.parts ws (with_mark r (called r.line)) (mark_clean r (called r.line) refl)

numbers_clean : (ns : List ℕ) → items_have_float (numbers ns) ≡ false
numbers_clean [] = refl
numbers_clean (n ∷ ns) = numbers_clean ns

label_clean : (o : Option (List ℕ)) (ms : Members) → NoFloat ms → NoFloat (with_label o ms)
label_clean None ms b = b
label_clean (Some w) ms b = put_clean (codes "label") (array (numbers w)) ms (numbers_clean w) b

within_clean : (name : List ℕ) (n : ℕ) (ms : Members) → NoFloat ms → NoFloat (with_number name n ms)
within_clean name n ms b = put_clean name (number (unsigned n)) ms refl b

placed_clean : (place : Within) (h : Held) (ms : Members) → NoFloat ms → NoFloat (placed place h ms)
placed_clean Nothing h ms b = b
placed_clean Round h ms b = within_clean (codes "round") h.round ms b
placed_clean Letter h ms b =
    let inner = with_number (codes "round") h.round ms in
    label_clean (option_and_then (label_of h) (number_at (codes "rank") ms)) (with_number (codes "general") h.general inner)
    (within_clean (codes "general") h.general inner (within_clean (codes "round") h.round ms b))
placed_clean Outbox h ms b = label_clean (option_and_then (label_of h) (number_at (codes "rank") ms)) ms b
placed_clean General h ms b = within_clean (codes "general") h.general ms b

first_step : (place : Within) (h : Held) (o rest : Option Members) → HaveClean o → HaveClean rest → HaveClean (first_by (option_map (λ ms. placed place h ms) o) rest)
first_step place h None rest a b = b
first_step place h (Some ms) rest a b = placed_clean place h ms a

first_shaped_clean : (h : Held) (rs : List Row) (ws : List Word) → HaveClean (first_shaped h rs ws)
first_shaped_clean h [] ws = tt
first_shaped_clean h (r ∷ rs) ws = first_step r.within h (shaped r ws) (first_shaped h rs ws) (shaped_clean r ws) (first_shaped_clean h rs ws)

by_clean : (o rest : Option Members) → HaveClean o → HaveClean rest → HaveClean (first_by o rest)
by_clean None rest a b = b
by_clean (Some ms) rest a b = a

or_clean : (o : Option Members) (ms : Members) → HaveClean o → NoFloat ms → NoFloat (or o ms)
or_clean None ms a b = b
or_clean (Some found) ms a b = a

text_clean : (name t : List ℕ) (ms : Members) → NoFloat ms → NoFloat (with_text name t ms)
text_clean name t ms b = put_clean name (string (utf8_lossy t)) ms refl b

-- ---- lines about an instruction

item_clean : (o : Option Data) (ds : Items) → IsClean o → items_have_float ds ≡ false → items_have_float (with_item o ds) ≡ false
item_clean None ds a b = b
item_clean (Some d) ds a b = rw (a, b) refl

each_clean : (f : Word → Option Data) → ((w : Word) → IsClean (f w)) → (ws : List Word) → items_have_float (each f ws) ≡ false
each_clean f clean [] = refl
each_clean f clean (w ∷ ws) = item_clean (f w) (each f ws) (clean w) (each_clean f clean ws)

shown_clean : (w : Word) → IsClean (shown w)
shown_clean w = either IsClean (length (trimmed w) == 0) None (Some (string (utf8_lossy (trimmed w)))) tt refl

parts_clean : (reads gives : List Word) (ms : Members) → NoFloat ms → NoFloat (with_parts reads gives ms)
parts_clean [] gives ms b = b
parts_clean (w ∷ reads) gives ms b =
    let named = with_text (codes "instruction") (trimmed w) ms in
    let read = put (codes "reads") (array (each shown reads)) named in
    put_clean (codes "gives") (array (each shown gives)) read (each_clean shown shown_clean gives)
    (put_clean (codes "reads") (array (each shown reads)) named (each_clean shown shown_clean reads)
    (text_clean (codes "instruction") (trimmed w) ms b))

instruction_clean : (text : List ℕ) (ms : Members) → NoFloat ms → NoFloat (with_instruction text ms)
unfolding with_instruction
instruction_clean text ms b = parts_clean (pieces semicolon (before arrow text)) (pieces semicolon (behind_stop arrow text)) ms b

source_line_clean : (o : Option ℕ) (ms : Members) → NoFloat ms → NoFloat (with_source_line o ms)
source_line_clean None ms b = b
source_line_clean (Some n) ms b = within_clean (codes "source_line") n ms b

source_clean : (o : Option (List ℕ)) (ms : Members) → NoFloat ms → NoFloat (with_source o ms)
source_clean None ms b = b
source_clean (Some place) ms b = source_line_clean (line_in place) (with_text (codes "place") place ms) (text_clean (codes "place") place ms b)

unit_clean : (unit : ℕ) (text : List ℕ) (ms : Members) → NoFloat ms → NoFloat (with_unit unit text ms)
unit_clean unit text ms b = source_clean (place_in text) (with_number (codes "unit") unit ms) (within_clean (codes "unit") unit ms b)

mapped_clean : {A : Type 0} (f : A → Members) → ((a : A) → NoFloat (f a)) → (o : Option A) → HaveClean (option_map f o)
mapped_clean f clean None = tt
mapped_clean f clean (Some a) = clean a

instruction_object_clean : (line : List ℕ) → HaveClean (instruction_object line)
unfolding instruction_object
instruction_object_clean line =
    let text = behind_stop space line in
    mapped_clean (instruction_at text)
    (λ unit. instruction_clean (behind_place text) (with_unit unit text (called (codes "instruction"))) (unit_clean unit text (called (codes "instruction")) refl))
    (unit_of line)

-- ---- lines of an explanation

then_reason : (o : Option (List ℕ)) (front : Option Members) → HaveClean front
    → HaveClean (option_and_then (λ reason. option_map (λ ms. with_text (codes "sentence") reason ms) front) o)
then_reason None front a = tt
then_reason (Some reason) None a = tt
then_reason (Some reason) (Some ms) a = text_clean (codes "sentence") reason ms a

reasoned_clean : (h : Held) (line : List ℕ) → HaveClean (reasoned h line)
reasoned_clean h line =
    let words = pieces space (before colon line) in
    then_reason (reason_in (from colon line)) (first_shaped h reasons words) (first_shaped_clean h reasons words)

object_clean : (o : Option Members) → HaveClean o → IsClean (option_map object o)
object_clean None a = tt
object_clean (Some ms) a = a

entry_clean : (w : Word) → IsClean (entry_of w)
entry_clean w = object_clean (told_by entry (pieces space w) no_members) (told_by_clean entry (pieces space w) no_members refl)

orders_clean : (own : Members) (o : Option Items) → NoFloat own → AreClean o → HaveClean (option_map (λ ds. put (codes "orders") (array ds) own) o)
orders_clean own None b a = tt
orders_clean own (Some ds) b a = put_clean (codes "orders") (array ds) own a b

after_own : (own : Option Members) (o : Option Items) → HaveClean own → AreClean o
    → HaveClean (option_and_then (λ ms. option_map (λ ds. put (codes "orders") (array ds) ms) o) own)
after_own None o b a = tt
after_own (Some ms) o b a = orders_clean ms o b a

entries_clean : (ws : List Word) (ms : Members) → NoFloat ms → HaveClean (with_entries ws ms)
entries_clean [] ms b = tt
entries_clean (w ∷ ws) ms b =
    after_own (told_by received (pieces space w) ms) (all entry_of ws) (told_by_clean received (pieces space w) ms b) (all_clean entry_of entry_clean ws)

labelled_clean : (o : Option Data) (ws : List Word) → IsClean o → HaveClean (option_and_then (λ label. with_entries ws (labelled label)) o)
labelled_clean None ws a = tt
labelled_clean (Some d) ws a = entries_clean ws (labelled d) (put_clean (codes "label") d (called (codes "list")) a refl)

listed_clean : (h : Held) (outcome : List ℕ) (o : Option Members) → HaveClean o
    → HaveClean (option_map (λ ms. placed General h (with_text (codes "outcome") outcome ms)) o)
listed_clean h outcome None a = tt
listed_clean h outcome (Some ms) a = placed_clean General h (with_text (codes "outcome") outcome ms) (text_clean (codes "outcome") outcome ms a)

list_clean : (h : Held) (line : List ℕ) → HaveClean (list_object h line)
list_clean h line =
    let entries = behind_stop colon line in
    listed_clean h (drop 1 (behind_stop colon entries))
    (option_and_then (λ label. with_entries (pieces comma (before colon entries)) (labelled label)) (numbers_of (before colon line)))
    (labelled_clean (numbers_of (before colon line)) (pieces comma (before colon entries)) (numbers_of_clean (before colon line)))

explanation_clean : (h : Held) (line : List ℕ) → HaveClean (explanation_object h line)
unfolding explanation_object
explanation_clean h line =
    by_clean (reasoned h line) (first_by (list_object h line) (instruction_object line)) (reasoned_clean h line)
    (by_clean (list_object h line) (instruction_object line) (list_clean h line) (instruction_object_clean line))

unshaped_clean : (line : List ℕ) → NoFloat (unshaped line)
unshaped_clean line = put_clean (codes "text") (string (utf8_lossy line)) (called (codes "text")) refl refl

-- Proves that no object of a line has a float.
pub line_clean : (h : Held) (line : List ℕ) → members_have_float (line_object h line) ≡ false
unfolding line_object
line_clean h line =
    let words = pieces space line in
    or_clean (first_by (first_shaped h accesses words) (other_object h line)) (unshaped line)
    (by_clean (first_shaped h accesses words) (other_object h line) (first_shaped_clean h accesses words)
    (by_clean (first_shaped h shapes words) (explanation_object h line) (first_shaped_clean h shapes words) (explanation_clean h line)))
    (unshaped_clean line)

-- ---- why a task was not done

quoted_clean : (ws : List Word) → items_have_float (instructions ws) ≡ false
quoted_clean [] = refl
quoted_clean (w ∷ []) = refl
quoted_clean (w ∷ v ∷ ws) = quoted_clean ws

edit_clean : (ds : Items) (instead : Bool) (unit : ℕ) → items_have_float ds ≡ false → has_float (edit ds instead unit) ≡ false
edit_clean ds instead unit a =
    let first = put (codes "instead") (boolean instead) no_members in
    put_clean (codes "unit") (number (unsigned unit)) (put (codes "instructions") (array ds) first) refl
    (put_clean (codes "instructions") (array ds) first a refl)

made_clean : {A : Type 0} (f : A → Data) → ((a : A) → has_float (f a) ≡ false) → (o : Option A) → IsClean (option_map f o)
made_clean f clean None = tt
made_clean f clean (Some a) = clean a

either_clean : (a b : Option Data) → IsClean a → IsClean b → IsClean (option_or a b)
either_clean None b x y = y
either_clean (Some d) b x y = x

edit_by_clean : (ds : Items) (text : List ℕ) → items_have_float ds ≡ false → IsClean (edit_by ds text)
edit_by_clean ds text a =
    either_clean (option_map (edit ds false) (unit_before text)) (option_map (edit ds true) (unit_replaced text))
    (made_clean (edit ds false) (λ unit. edit_clean ds false unit a) (unit_before text))
    (made_clean (edit ds true) (λ unit. edit_clean ds true unit a) (unit_replaced text))

edit_of_clean : (help : List ℕ) → IsClean (edit_of help)
unfolding edit_of
edit_of_clean help =
    either IsClean (bytes_eq (before quote help) (codes "with ")) (edit_by (instructions (pieces quote help)) (last_piece (pieces quote help))) None
    (edit_by_clean (instructions (pieces quote help)) (last_piece (pieces quote help)) (quoted_clean (pieces quote help))) tt

edited_clean : (o : Option Data) (ms : Members) → IsClean o → NoFloat ms → NoFloat (with_edit o ms)
edited_clean None ms a b = b
edited_clean (Some d) ms a b = put_clean (codes "edit") d ms a b

help_clean : (o : Option (List ℕ)) (ms : Members) → NoFloat ms → NoFloat (with_help o ms)
help_clean None ms b = b
help_clean (Some help) ms b = edited_clean (edit_of help) (with_text (codes "help") help ms) (edit_of_clean help) (text_clean (codes "help") help ms b)

note_clean : (w : Word) → IsClean (note_of w)
note_clean w = either IsClean (bytes_eq (take 6 w) (codes "note: ")) (Some (string (utf8_lossy (drop 6 w)))) None refl tt

fact_clean : (w : Word) → IsClean (fact_of w)
fact_clean w = either IsClean (is_fact (behind_place (behind_stop space w))) (option_map object (instruction_object w)) None
    (object_clean (instruction_object w) (instruction_object_clean w)) tt

judged_text_clean : (text : List ℕ) (ms : Members) → NoFloat ms → NoFloat (with_judged text ms)
judged_text_clean text ms b =
    let named = with_text (codes "instruction") (before colon text) ms in
    text_clean (codes "sentence") (drop 2 (from colon text)) named (text_clean (codes "instruction") (before colon text) ms b)

judged_clean : (line : List ℕ) → IsClean (judged_of line)
unfolding judged_of
judged_clean line =
    let text = behind_stop space line in
    made_clean (judged_at text)
    (λ unit. judged_text_clean (behind_place text) (with_unit unit text no_members) (unit_clean unit text no_members refl)) (unit_of line)

then_judged : (o : Option (List ℕ)) → IsClean (option_and_then judged_of o)
then_judged None = tt
then_judged (Some line) = judged_clean line

judgement_clean : (o : Option Data) (lines : List (List ℕ)) (ms : Members) → IsClean o → NoFloat ms → NoFloat (with_judgement o lines ms)
judgement_clean None lines ms a b = b
judgement_clean (Some why) lines ms a b =
    let said = put (codes "why") why ms in
    let noted = put (codes "notes") (array (each note_of lines)) said in
    put_clean (codes "facts") (array (each fact_of lines)) noted (each_clean fact_of fact_clean lines)
    (put_clean (codes "notes") (array (each note_of lines)) said (each_clean note_of note_clean lines) (put_clean (codes "why") why ms a b))

verified_clean : (code : List ℕ) (lines : List (List ℕ)) (ms : Members) → NoFloat ms → NoFloat (with_verified code lines ms)
verified_clean code lines ms b =
    either NoFloat (is_unsafe code) (with_explanation (why lines) lines ms) ms (judgement_clean (option_and_then judged_of (why lines)) lines ms (then_judged (why lines)) b) b

advice_clean : (code : List ℕ) (lines : List (List ℕ)) (ms : Members) → NoFloat ms → NoFloat (with_advice code lines ms)
advice_clean code lines ms b = verified_clean code lines (with_help (help_of lines) ms) (help_clean (help_of lines) ms b)

numbered_clean : (place : List ℕ) → NoFloat (numbered place)
numbered_clean place =
    or_clean (first_shaped at_first error_places (pieces space place)) (called (codes "refused")) (first_shaped_clean at_first error_places (pieces space place)) refl

place_refused_clean : (code place : List ℕ) → NoFloat (placed_refusal code place)
place_refused_clean code place = either NoFloat (is_keyed code) (called (codes "refused")) (numbered place) refl (numbered_clean place)

sentence_clean : (o : Option (List ℕ)) (ms : Members) → NoFloat ms → NoFloat (with_sentence o ms)
sentence_clean None ms b = b
sentence_clean (Some s) ms b = text_clean (codes "sentence") s ms b

namer_clean : (o : Option (List ℕ)) (ms : Members) → NoFloat ms → NoFloat (with_namer o ms)
namer_clean None ms b = b
namer_clean (Some key) ms b = text_clean (codes "named_by") key ms b

refused_clean : (told : List ℕ) (lines : List (List ℕ)) → NoFloat (refused_object told lines)
refused_clean told lines =
    let code = before space told in
    let base = placed_refusal code (behind_stop space told) in
    let coded = with_text (codes "code") code base in
    let placed_at = with_text (codes "place") (behind_stop space told) coded in
    let classed = put (codes "class") (string (class_of code)) placed_at in
    let first : NoFloat coded = text_clean (codes "code") code base (place_refused_clean code (behind_stop space told)) in
    let second : NoFloat placed_at = text_clean (codes "place") (behind_stop space told) coded first in
    let named = with_namer (namer_of code lines) classed in
    let third : NoFloat named = namer_clean (namer_of code lines) classed (put_clean (codes "class") (string (class_of code)) placed_at refl second) in
    advice_clean code lines (with_sentence (sentence_of code lines) named) (sentence_clean (sentence_of code lines) named third)

fault_clean : (told : List ℕ) (lines : List (List ℕ)) → NoFloat (fault_object told lines)
fault_clean told lines =
    let what = with_text (codes "fault") (before space told) (called (codes "fault")) in
    let place = with_text (codes "place") (behind_stop space told) what in
    let first : NoFloat what = text_clean (codes "fault") (before space told) (called (codes "fault")) refl in
    let classed = put (codes "class") (string (codes "unreadable")) place in
    let by = option_and_then namer (slice_get lines 0) in
    sentence_clean (reported lines) (with_namer by classed)
    (namer_clean by classed (put_clean (codes "class") (string (codes "unreadable")) place refl (text_clean (codes "place") (behind_stop space told) what first)))

pub refusal_clean : (text : List ℕ) → members_have_float (refusal_object text) ≡ false
unfolding refusal_object
refusal_clean text =
    let line = before feed text in
    let word = before space line in
    let lines = lines_of (behind_stop feed text) in
    let told = behind_stop space line in
    either NoFloat (bytes_eq word (codes "refused")) (refused_object told lines) (if bytes_eq word (codes "fault") then fault_object told lines else unshaped line) (refused_clean told lines)
    (either NoFloat (bytes_eq word (codes "fault")) (fault_object told lines) (unshaped line) (fault_clean told lines) (unshaped_clean line))

-- Proves that the name of a file adds no float.
pub file_clean : (file : List ℕ) (ms : Members) → members_have_float ms ≡ false → members_have_float (with_file file ms) ≡ false
file_clean file ms b = put_clean (codes "file") (string file) ms refl b
