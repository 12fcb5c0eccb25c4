-- The search, commander by commander.
use Rattle.std.proofs.Common.{ℕ, ◌≡◌, Bool, true, false, cond, List, refl, sym, ◌∙◌, arith, Option, None, Some}
use Rattle.std.specs.Prelude.{nat_lt, IfSome}
use Rattle.std.proofs.lemmas.Bool.{ltb-true, ltb-false}
use Rattle.lies.specs.Asked.{IsAsked}
use Rattle.lies.specs.Attempts.{NoneCheaper}
use Rattle.lies.specs.Commanders.{IsFoundUnder, cheaper_under, success_under}
use Rattle.lies.specs.Search.{IsFoundAmong, success_of}
use Rattle.lies.specs.declared.attempt.Attempt.{Attempt}
use Rattle.lies.specs.declared.choice.Choice.{Choice}
use Rattle.lies.specs.declared.found.Found.{Found}
use Rattle.lies.specs.declared.found.FoundUnder.{FoundUnder}

clash : (zs : List Choice) → None ≡ Some zs → ⊥
clash zs e = cc

-- Proves that an earlier commander has no break cheaper than the new best, either.
pub still_none_under : (f : List ℕ → ℕ) (n m d : ℕ) (traitors : List ℕ) (tried : List Attempt) (best : Option FoundUnder) (c : ℕ) (found : Option Found) → NoneCheaper f n m d traitors tried (success_under best)
    → NoneCheaper f n m d traitors tried (success_under (cheaper_under best c found))
still_none_under f n m d traitors tried None c None none = none
still_none_under f n m d traitors tried (Some b) c None none = none
still_none_under f n m d traitors tried None c (Some s) none = λ attempt zs i h. absurd (clash zs (sym (none attempt i) ∙ h))
still_none_under f n m d traitors tried (Some b) c (Some s) none = pick (nat_lt s.success.attacks b.found.success.attacks) refl
  where
    pick : (e : Bool) → nat_lt s.success.attacks b.found.success.attacks ≡ e → NoneCheaper f n m d traitors tried (success_under (cond e (Some (record { commander = c; found = s })) (Some b)))
    pick true e = λ attempt zs i h. (let l = ltb-true s.success.attacks b.found.success.attacks e in let k = none attempt zs i h in omega arith)
    pick false e = none

-- Proves that the commander who was just tried has no break cheaper than the new best.
pub now_none_under : (f : List ℕ → ℕ) (n m d : ℕ) (traitors : List ℕ) (tried : List Attempt) (best : Option FoundUnder) (c : ℕ) (found : Option Found) → NoneCheaper f n m d traitors tried (success_of found)
    → NoneCheaper f n m d traitors tried (success_under (cheaper_under best c found))
now_none_under f n m d traitors tried None c None none = none
now_none_under f n m d traitors tried (Some b) c None none = λ attempt zs i h. absurd (clash zs (sym (none attempt i) ∙ h))
now_none_under f n m d traitors tried None c (Some s) none = none
now_none_under f n m d traitors tried (Some b) c (Some s) none = pick (nat_lt s.success.attacks b.found.success.attacks) refl
  where
    pick : (e : Bool) → nat_lt s.success.attacks b.found.success.attacks ≡ e → NoneCheaper f n m d traitors tried (success_under (cond e (Some (record { commander = c; found = s })) (Some b)))
    pick true e = none
    pick false e = λ attempt zs i h. (let l = ltb-false s.success.attacks b.found.success.attacks e in let k = none attempt zs i h in omega arith)

-- Proves that the new best is a break under a commander asked about, if the best so far is one and the break that was
-- just found is.
pub found_under : (f : List ℕ → ℕ) (n m : ℕ) (given : Option ℕ) (count : ℕ) (best : Option FoundUnder) (c : ℕ) (found : Option Found) → IfSome best (IsFoundUnder f n m given count) → IsAsked n given c → IfSome found (IsFoundAmong f n m c count)
    → IfSome (cheaper_under best c found) (IsFoundUnder f n m given count)
found_under f n m given count None c None b asked s = tt
found_under f n m given count (Some u) c None b asked s = b
found_under f n m given count None c (Some r) b asked s = record { asked = asked; among = s }
found_under f n m given count (Some u) c (Some r) b asked s = pick (nat_lt r.success.attacks u.found.success.attacks)
  where
    pick : (d : Bool) → IfSome (cond d (Some (record { commander = c; found = r })) (Some u)) (IsFoundUnder f n m given count)
    pick true = record { asked = asked; among = s }
    pick false = b
