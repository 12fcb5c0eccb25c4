-- A loyal general passes on, one after another, the chains that bring him orders.
use Rattle.std.proofs.Common.{◌≡◌, ℕ, zero, suc, ◌+◌, ◌<◌, ◌≤◌, Bool, true, false, not, cond, ◌&&◌, List, [], ◌∷◌, ◌++◌, drop, length, refl, sym, ap, subst, ◌∙◌, arith, length-append, Option, Some, None}
use Rattle.std.specs.Prelude.{slice_get}
use Rattle.std.specs.Borrow.{Bor}
use Rattle.std.proofs.Math.ListN.{drop_of_length-le}
use Rattle.std.proofs.lemmas.List.{take_all}
use Rattle.label.specs.Labels.{on}
use Rattle.semantics.specs.Relay.{Relay}
use Rattle.semantics.specs.Entries.{entered}
use Rattle.round.proofs.Lists.{some_at}
use Rattle.signed.specs.Chains.{Chain}
use Rattle.signed.specs.Accepted.{counts}
use Rattle.signed.specs.Entries.{Entry, Pass}
use Rattle.signed.specs.Loyal.{bits_but, passes}
use Rattle.signed.specs.Sending.{added_also, added_by, chain_in, entered_all, AreFirst}
use Rattle.signed.proofs.Adding.{at_the_end}
use Rattle.signed.proofs.Passes.{added_longer, passes_same}

-- The first eight of at most eight orders are all of them.
pub first_all : (kept seen : List ℕ) → length seen ≤ 8 → AreFirst kept seen → kept ≡ seen
first_all kept seen few first = first ∙ take_all 8 seen few

-- States that the orders and entries so far, with those for the chains from an index on, are those of all chains.
pub record IsPassing (n k g earlier : ℕ) (chains : List Chain) (relay : Relay) (seen : List ℕ) (before : List Entry) (place : ℕ) (known : List ℕ) (entries : List Entry) : Type 0 where
  pub added : added_by k g known (drop place chains) ≡ added_by k g seen (drop earlier chains)
  pub entered : entered_all relay entries (passes n k g place known (drop place chains)) ≡ entered_all relay before (passes n k g earlier seen (drop earlier chains))

pub passing_first : (n k g earlier : ℕ) (chains : List Chain) (relay : Relay) (seen : List ℕ) (before : List Entry) (known : List ℕ) → AreFirst known seen → length (added_by k g seen (drop earlier chains)) ≤ 8 →
    IsPassing n k g earlier chains relay seen before earlier known before
passing_first n k g earlier chains relay seen before known first few =
    let same : known ≡ seen = first_all known seen (omega (arith, added_longer k g seen (drop earlier chains))) first in
    record {
      added = ap (λ (xs : List ℕ). added_by k g xs (drop earlier chains)) same;
      entered = ap (λ (xs : List ℕ). entered_all relay before (passes n k g earlier xs (drop earlier chains))) same;
    }

pub drop_at : (chains : List Chain) (place : ℕ) (ch : Chain) → slice_get chains place ≡ Some ch → drop place chains ≡ ch ∷ drop (suc place) chains
drop_at [] place ch e = absurd (let f : None ≡ Some ch = e in cc)
drop_at (x ∷ chains) zero ch e = (let same : x ≡ ch = (let f : Some x ≡ Some ch = e in cc) in ap (λ (y : Chain). y ∷ chains) same)
drop_at (x ∷ chains) (suc place) ch e = drop_at chains place ch e

module _ (n k g earlier : ℕ) (chains : List Chain) (relay : Relay) (seen : List ℕ) (before : List Entry) (place next : ℕ) (known : List ℕ) (entries : List Entry) (ch : Chain) where
  -- A chain that brings no new order is skipped.
  pub passing_over : next ≡ suc place → slice_get chains place ≡ Some ch → (counts k g ch && not (on known ch.order)) ≡ false →
      IsPassing n k g earlier chains relay seen before place known entries → IsPassing n k g earlier chains relay seen before next known entries
  passing_over step at idle p =
      let rest = drop (suc place) chains in
      let cut = drop_at chains place ch at in
      let orders : added_by k g known (ch ∷ rest) ≡ added_by k g known rest = ap (λ (xs : List ℕ). added_by k g xs rest) (none (counts k g ch) (on known ch.order) idle) in
      let over : passes n k g place known (ch ∷ rest) ≡ passes n k g (suc place) known rest =
      ap (λ (b : Bool). cond b (Pass place (bits_but n (ch.signers ++ g ∷ [])) ∷ passes n k g (suc place) (ch.order ∷ known) rest) (passes n k g (suc place) known rest)) idle in
      subst (λ (j : ℕ). IsPassing n k g earlier chains relay seen before j known entries) (sym step) (record {
        added = sym orders ∙ (ap (added_by k g known) (sym cut) ∙ p.added);
        entered = ap (entered_all relay entries) (sym over) ∙ (ap (λ (xs : List Chain). entered_all relay entries (passes n k g place known xs)) (sym cut) ∙ p.entered);
      })
    where
      none : (a b : Bool) → (a && not b) ≡ false → cond a (cond b known (known ++ ch.order ∷ [])) known ≡ known
      none false b e = refl
      none true true e = refl
      none true false e = absurd cc

  -- A chain is passed on.
  pub passing_on : (orders : List ℕ) → next ≡ suc place → slice_get chains place ≡ Some ch → (counts k g ch && not (on known ch.order)) ≡ true →
      ((xs : List ℕ) → AreFirst known xs → AreFirst orders (added_also xs ch.order)) → length (added_by k g seen (drop earlier chains)) ≤ 8 →
      IsPassing n k g earlier chains relay seen before place known entries →
      IsPassing n k g earlier chains relay seen before next orders (entered relay entries (Pass place (bits_but n (ch.signers ++ g ∷ []))))
  passing_on orders step at yes_new firsts few p =
      let rest = drop (suc place) chains in
      let cut = drop_at chains place ch at in
      let e = Pass place (bits_but n (ch.signers ++ g ∷ [])) in
      let more = known ++ ch.order ∷ [] in
      let all : added_by k g known (ch ∷ rest) ≡ added_by k g seen (drop earlier chains) = ap (added_by k g known) (sym cut) ∙ p.added in
      let one : added_by k g known (ch ∷ rest) ≡ added_by k g more rest = ap (λ (xs : List ℕ). added_by k g xs rest) (new (counts k g ch) (on known ch.order) yes_new) in
      let size = ap length (sym one ∙ all) in
      let short : length more ≤ 8 = omega (arith, added_longer k g more rest) in
      let fewer : length known ≤ 8 = omega (arith, length-append known (ch.order ∷ [])) in
      let also : added_also known ch.order ≡ more = apart (counts k g ch) (on known ch.order) yes_new in
      let same : orders ≡ more = first_all orders more short (subst (λ (xs : List ℕ). AreFirst orders xs) also (firsts known (sym (take_all 8 known fewer)))) in
      let passed : passes n k g place known (ch ∷ rest) ≡ e ∷ passes n k g (suc place) more rest =
      ap (λ (b : Bool). cond b (e ∷ passes n k g (suc place) (ch.order ∷ known) rest) (passes n k g (suc place) known rest)) yes_new
      ∙ ap (λ (es : List Entry). e ∷ es) (sym (passes_same n k g (suc place) more (ch.order ∷ known) rest (λ v. at_the_end known ch.order v))) in
      subst (λ (j : ℕ). IsPassing n k g earlier chains relay seen before j orders (entered relay entries e)) (sym step)
      (subst (λ (xs : List ℕ). IsPassing n k g earlier chains relay seen before (suc place) xs (entered relay entries e)) (sym same) (record {
        added = sym one ∙ all;
        entered = ap (entered_all relay entries) (sym passed) ∙ (ap (λ (xs : List Chain). entered_all relay entries (passes n k g place known xs)) (sym cut) ∙ p.entered);
      }))
    where
      new : (a b : Bool) → (a && not b) ≡ true → cond a (cond b known (known ++ ch.order ∷ [])) known ≡ known ++ ch.order ∷ []
      new false b e = absurd cc
      new true true e = absurd cc
      new true false e = refl

      apart : (a b : Bool) → (a && not b) ≡ true → cond b known (known ++ ch.order ∷ []) ≡ known ++ ch.order ∷ []
      apart a true e = absurd (nothing a e)
        where
          nothing : (a : Bool) → (a && false) ≡ true → ⊥
          nothing true e = cc
          nothing false e = cc
      apart a false e = refl

-- In the end all entries are made.
pub passing_last : (n k g earlier : ℕ) (chains : List Chain) (relay : Relay) (seen : List ℕ) (before : List Entry) (place : ℕ) (known : List ℕ) (entries : List Entry) → length chains ≤ place →
    IsPassing n k g earlier chains relay seen before place known entries → entries ≡ entered_all relay before (passes n k g earlier seen (drop earlier chains))
passing_last n k g earlier chains relay seen before place known entries end p =
    let none : drop place chains ≡ [] = drop_of_length-le chains end in
    ap (λ (xs : List Chain). entered_all relay entries (passes n k g place known xs)) (sym none) ∙ p.entered

both_hold : (a b c d : Bool) → c ≡ a → c ≡ true → d ≡ b → d ≡ false → (a && not b) ≡ true
both_hold a b c d e f h k = (λ i. (sym e ∙ f) i && not ((sym h ∙ k) i))

not_first : (a b c : Bool) → c ≡ a → c ≡ false → (a && not b) ≡ false
not_first a b c e f = ap (λ (x : Bool). x && not b) (sym e ∙ f)

not_second : (a b d : Bool) → d ≡ b → d ≡ true → (a && not b) ≡ false
not_second a b d h k = ap (λ (x : Bool). a && not x) (sym h ∙ k) ∙ by a
  where
    by : (x : Bool) → (x && false) ≡ false
    by true = refl
    by false = refl

-- The chain that was read at an index.
pub chain_at : (o : Option (Bor Chain)) (b : Bor Chain) (x : Option Chain) → chain_in o ≡ x → o ≡ Some b → x ≡ Some b.now
chain_at o b x read is = sym read ∙ ap chain_in is

module _ (n k g earlier : ℕ) (chains : List Chain) (relay : Relay) (seen : List ℕ) (before : List Entry) (place : ℕ) (known : List ℕ) (entries : List Entry) (ch : Chain) where
  -- The chain does not count.
  pub uncounted : (counted : Bool) → slice_get chains place ≡ Some ch → counted ≡ counts k g ch → counted ≡ false →
      IsPassing n k g earlier chains relay seen before place known entries → IsPassing n k g earlier chains relay seen before (place + 1) known entries
  uncounted counted at e f p =
      passing_over n k g earlier chains relay seen before place (place + 1) known entries ch (omega arith) at (not_first (counts k g ch) (on known ch.order) counted e f) p

  -- The chain's order is already known.
  pub known_already : (among : Bool) (kept : List ℕ) (order : ℕ) → slice_get chains place ≡ Some ch → among ≡ on kept order → kept ≡ known → order ≡ ch.order → among ≡ true →
      IsPassing n k g earlier chains relay seen before place known entries → IsPassing n k g earlier chains relay seen before (place + 1) known entries
  known_already among kept order at e same is f p =
      passing_over n k g earlier chains relay seen before place (place + 1) known entries ch (omega arith) at (not_second (counts k g ch) (on known ch.order) among (e ∙ (λ i. on (same i) (is i))) f) p

  -- The chain is passed on.
  pub passed_on_also : (counted among : Bool) (kept orders : List ℕ) (order order2 bits : ℕ) (there : Relay) (more : List Entry) → slice_get chains place ≡ Some ch → counted ≡ counts k g ch → counted ≡ true →
      among ≡ on kept order → kept ≡ known → order ≡ ch.order → among ≡ false → there ≡ relay → bits ≡ bits_but n (ch.signers ++ g ∷ []) → more ≡ entered there entries (Pass place bits) → order2 ≡ ch.order →
      ((xs : List ℕ) → AreFirst known xs → AreFirst orders (added_also xs order2)) → length (added_by k g seen (drop earlier chains)) ≤ 8 →
      IsPassing n k g earlier chains relay seen before place known entries → IsPassing n k g earlier chains relay seen before (place + 1) orders more
  passed_on_also counted among kept orders order order2 bits there more at e f h same is l relays all entering is2 firsts few p =
      let entries_are : more ≡ entered relay entries (Pass place (bits_but n (ch.signers ++ g ∷ []))) = entering ∙ (λ i. entered (relays i) entries (Pass place (all i))) in
      subst (λ (es : List Entry). IsPassing n k g earlier chains relay seen before (place + 1) orders es) (sym entries_are)
      (passing_on n k g earlier chains relay seen before place (place + 1) known entries ch orders (omega arith) at (both_hold (counts k g ch) (on known ch.order) counted among e f (h ∙ (λ i. on (same i) (is i))) l)
      (λ xs first. subst (λ (o : ℕ). AreFirst orders (added_also xs o)) is2 (firsts xs first)) few p)

-- There is a chain at each index within the list.
pub some_there : (o : Option (Bor Chain)) (chains : List Chain) (place : ℕ) → chain_in o ≡ slice_get chains place → o ≡ None → place < length chains → ⊥
some_there o chains place read is inside =
    let there = some_at chains place inside in
    let none : slice_get chains place ≡ None = sym read ∙ ap chain_in is in
    let clash : Some there.0 ≡ None = sym there.1 ∙ none in
    cc
