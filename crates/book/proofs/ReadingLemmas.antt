-- The message of a line, from what was read of its words.
use Rattle.std.proofs.Common.{◌≡◌, ◌<◌, ℕ, Bool, true, false, cond, List, Option, Some, None, refl, sym, ap, ◌∙◌}
use Rattle.std.specs.Prelude.{Ok, Err, Result, nat_lt, not, ◌&&◌, if◌then◌else◌}
use Rattle.std.specs.List.{list_any}
use Rattle.text.specs.Options.{◌>>=◌}
use Rattle.text.specs.Stop.{dot, space}
use Rattle.text.specs.Parts.{pieces}
use Rattle.text.specs.Number.{decimal_of}
use Rattle.label.specs.Labels.{on}
use Rattle.book.specs.declared.message.Message.{Message}
use Rattle.book.specs.declared.fault.TableFault.{TableFault}
use Rattle.book.specs.declared.fault.TableFault.TheVariants.{Line, Place, Twice}
use Rattle.book.specs.Table.{MessageTable, is_about}
use Rattle.book.specs.Grammar.{is_place, checked, message_of, numbers_of, order_in, tell_parts}
use Rattle.book.specs.Reading.{begun_label, label_or, label_read, numbers_or, placed_label, shape_of}
use Rattle.book.proofs.LabelLemmas.{begun_label-whole, placed_label-is}

-- The message of a line with these words.
abbrev pub said_by : Option (List ℕ) → ℕ → ℕ → Option Message
said_by ns p v = ns >>= λ w. Some (record { label = w; receiver = p; order = v })

abbrev said : List ℕ → ℕ → ℕ → Option Message
said w p v = Some (record { label = w; receiver = p; order = v })

abbrev shaped : List ℕ → ℕ → ℕ → Option (List ℕ × ℕ × ℕ)
shaped label p v = Some (label, p, v)

in_turn : (parts : Option (List ℕ × List ℕ × List ℕ)) → (parts >>= λ s. numbers_of (pieces dot s.0) >>= λ w. decimal_of s.1 >>= λ p. order_in s.2 >>= λ v. said w p v)
    ≡ ((parts >>= λ s. decimal_of s.1 >>= λ p. order_in s.2 >>= λ v. shaped s.0 p v) >>= λ s. said_by (numbers_of (pieces dot s.0)) s.1 s.2)
in_turn None = refl
in_turn (Some s) = together (numbers_of (pieces dot s.0)) (decimal_of s.1) (order_in s.2) s.0 refl
  where
    together : (ns : Option (List ℕ)) (p v : Option ℕ) (label : List ℕ) → numbers_of (pieces dot label) ≡ ns
        → (ns >>= λ w. p >>= λ p'. v >>= λ v'. said w p' v') ≡ ((p >>= λ p'. v >>= λ v'. shaped label p' v') >>= λ s. said_by (numbers_of (pieces dot s.0)) s.1 s.2)
    together None None v label e = refl
    together None (Some p) None label e = refl
    together None (Some p) (Some v) label e = rw e refl
    together (Some w) None v label e = refl
    together (Some w) (Some p) None label e = refl
    together (Some w) (Some p) (Some v) label e = rw e refl

-- The message of a line, from its words.
pub message_by_shape : (line : List ℕ) → message_of line ≡ (shape_of line >>= λ s. said_by (numbers_of (pieces dot s.0)) s.1 s.2)
unfolding message_of shape_of
message_by_shape line = in_turn (tell_parts (pieces space line))

pub no_shape : (t : MessageTable) (line : List ℕ) → shape_of line ≡ None → Err Line ≡ checked t (message_of line)
no_shape t line e = rw (message_by_shape line, e) refl

-- A label that was read.
pub record IsRead (t : MessageTable) (label : List ℕ) (w : List ℕ) : Type 0 where
  pub numbers : numbers_of (pieces dot label) ≡ Some w
  pub begun : begun_label t w ≡ Some w

pub read_is : (t : MessageTable) (label w : List ℕ) → label_read t label ≡ Ok w → IsRead t label w
unfolding label_read
read_is t label w e = parts (numbers_of (pieces dot label)) refl e
  where
    one : (v : List ℕ) (o : Option (List ℕ)) → begun_label t v ≡ o → label_or o ≡ Ok w → begun_label t v ≡ Some w
    one v None b h = cc
    one v (Some x) b h = b ∙ (let same : x ≡ w = cc in ap Some same)

    parts : (ns : Option (List ℕ)) → numbers_of (pieces dot label) ≡ ns → numbers_or (begun_label t) ns ≡ Ok w → IsRead t label w
    parts None n h = cc
    parts (Some v) n h =
        let begun : begun_label t v ≡ Some w = one v (begun_label t v) refl h in
        let same : v ≡ w = begun_label-whole t v w begun in
        record { numbers = n ∙ ap Some same; begun = sym (ap (begun_label t) same) ∙ begun }

same_fault : {x y : TableFault} → ◌≡◌ {A = Result (List ℕ) TableFault} (Err x) (Err y) → x ≡ y
same_fault h = cc

-- If no label is read, the line has the same fault.
no_label : (t : MessageTable) (label : List ℕ) (p v : ℕ) (fault : TableFault) → t.commander < t.generals → label_read t label ≡ Err fault
    → Err fault ≡ checked t (said_by (numbers_of (pieces dot label)) p v)
unfolding label_read placed_label
no_label t label p v fault inside h = parts (numbers_of (pieces dot label)) h
  where
    none_is : (b : Bool) (w : List ℕ) → None ≡ cond b (Some w) None → b ≡ false
    none_is true w e = cc
    none_is false w e = refl

    never : (b : Bool) (w : List ℕ) → begun_label t w ≡ None → None ≡ (if b then (begun_label t w >>= λ u. if on u p then None else Some u) else None)
    never true w e = rw e refl
    never false w e = refl

    one : (w : List ℕ) (o : Option (List ℕ)) → begun_label t w ≡ o → label_or o ≡ Err fault → Err fault ≡ checked t (Some (record { label = w; receiver = p; order = v }))
    one w None b h =
        let fails : is_place t w p ≡ false = none_is (is_place t w p) w (never (nat_lt p t.generals) w b ∙ placed_label-is t w p inside) in
        rw fails (ap Err (sym (same_fault h)))
    one w (Some x) b h = cc

    parts : (ns : Option (List ℕ)) → numbers_or (begun_label t) ns ≡ Err fault → Err fault ≡ checked t (said_by ns p v)
    parts None h = ap Err (sym (same_fault h))
    parts (Some w) h = one w (begun_label t w) refl h

pub no_label_there : (t : MessageTable) (line label : List ℕ) (p v : ℕ) (fault : TableFault) → t.commander < t.generals → shape_of line ≡ Some (label, p, v)
    → label_read t label ≡ Err fault → Err fault ≡ checked t (message_of line)
no_label_there t line label p v fault inside s h = rw (message_by_shape line, s) (no_label t label p v fault inside h)

-- A label that is read and a receiver who is not on it are a place.
pub place_is : (t : MessageTable) (w : List ℕ) (p : ℕ) → t.commander < t.generals → begun_label t w ≡ Some w → is_place t w p ≡ (nat_lt p t.generals && not (on w p))
unfolding placed_label
place_is t w p inside b = told (is_place t w p) (nat_lt p t.generals) (on w p) (sym (placed_label-is t w p inside) ∙ rw b refl)
  where
    told : (i n o : Bool) → cond {A = Option (List ℕ)} i (Some w) None ≡ (if n then (if o then None else Some w) else None) → i ≡ (n && not o)
    told true true true e = cc
    told true true false e = refl
    told true false o e = cc
    told false true true e = refl
    told false true false e = cc
    told false false o e = refl

-- The result for a line whose label was read.
pub placed_so : (t : MessageTable) (line label w : List ℕ) (p v : ℕ) → shape_of line ≡ Some (label, p, v) → IsRead t label w → (is : Bool) → is_place t w p ≡ is
    → checked t (message_of line) ≡ (if is then (if list_any (is_about w p) t.messages then Err Twice else Ok (record { label = w; receiver = p; order = v })) else Err Place)
placed_so t line label w p v s read is e = rw (message_by_shape line, s, read.numbers, e) refl
