-- Lemmas about how much of a text a writer has taken after several writes.
use Rattle.std.proofs.Common.{ℕ, ◌≡◌, ◌+◌, ◌-◌, ◌∙◌, List, [], take, drop, length, sym, subst, arith}
use Rattle.std.specs.Prelude.{Option, None, Some}
use Rattle.std.specs.Io.KnownBytes.{Appends, Keeps}
use Rattle.std.proofs.KnownBytes.{Appends-nil, Appends-trans}
use Rattle.std.proofs.lemmas.List.{append-nil, take-append-drop, take_all, take_rest}
use lib.Seq.{take-add}
use Rattle.streams.specs.Writing.{AppendsFront}

-- Before the first write it has taken nothing.
pub appends_none : (known : Option (List ℕ)) (text : List ℕ) → Appends known known (take 0 text)
appends_none known text = Appends-nil known

-- After a flush it has taken as much as before.
pub appends_kept : (first then last : Option (List ℕ)) (front : List ℕ) → Appends first then front → Keeps then last → Appends first last front
appends_kept None then last front k l = tt
appends_kept (Some all) None last front k l = absurd k
appends_kept (Some all) (Some more) None front k l = absurd l
appends_kept (Some all) (Some more) (Some rest) front k l = l ∙ k

-- After one more write it has taken more of the text.
pub appends_more : (first then last : Option (List ℕ)) (text : List ℕ) (written number : ℕ)
    → Appends first then (take written text) → Appends then last (take number (drop written text)) → Appends first last (take (written + number) text)
appends_more first then last text written number k l =
    subst (Appends first last) (sym (take-add written number text)) (Appends-trans first then last (take written text) (take number (drop written text)) k l)

-- When it has taken as many bytes as the text has, it has taken the whole text.
pub appends_all : (first last : Option (List ℕ)) (text : List ℕ) (written : ℕ) → written ≡ length text → Appends first last (take written text) → Appends first last text
appends_all first last text written all k = subst (Appends first last) (take_all written text (let e = all in omega arith)) k

-- What it has taken is the front of the text.
pub appends_front : (first last : Option (List ℕ)) (text : List ℕ) (written : ℕ) → Appends first last (take written text) → AppendsFront first last text
appends_front first last text written k = record { front = take written text; rest = drop written text; split = sym (take-append-drop written text); written = k }

-- A whole text that was written and flushed is also a front of the text.
pub appends_whole : (first then last : Option (List ℕ)) (text : List ℕ) → Appends first then text → Keeps then last → AppendsFront first last text
appends_whole first then last text k l = record { front = text; rest = []; split = sym (append-nil text); written = appends_kept first then last text k l }

-- After one more write from the remaining text it has taken more of the text.
pub appends_on : (first then last : Option (List ℕ)) (text : List ℕ) (written number : ℕ)
    → Appends first then (take written text) → Appends then last (take number (take (length text - written) (drop written text))) → Appends first last (take (written + number) text)
appends_on first then last text written number k l =
    appends_more first then last text written number k (subst (λ (rest : List ℕ). Appends then last (take number rest)) (take_rest text written) l)

-- The rules for writing a whole text, and for one that is written in part.
pub ruleset writes = (appends_none, appends_kept, appends_more, appends_all, appends_front)
