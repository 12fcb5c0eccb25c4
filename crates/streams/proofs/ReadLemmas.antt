-- Lemmas about the bytes that a reader has given after several reads.
use Rattle.std.proofs.Common.{ℕ, ◌∙◌, ◌++◌, List, [], ap, refl, sym}
use Rattle.std.specs.Prelude.{Option, None, Some}
use Rattle.std.specs.Io.KnownBytes.{Consumes, Keeps}
use Rattle.std.proofs.lemmas.List.{append_assoc}

-- A read that gives nothing keeps the remaining bytes.
pub keeps_self : (known : Option (List ℕ)) → Keeps known known
keeps_self None = tt
keeps_self (Some bytes) = refl

pub consumes_none : (known : Option (List ℕ)) → Consumes known known []
consumes_none None = tt
consumes_none (Some bytes) = refl

-- Two reads that give nothing keep the remaining bytes.
pub keeps_still : (first then last : Option (List ℕ)) → Keeps first then → Keeps then last → Keeps first last
keeps_still None then last k l = tt
keeps_still (Some bytes) None last k l = absurd k
keeps_still (Some bytes) (Some more) None k l = absurd l
keeps_still (Some bytes) (Some more) (Some rest) k l = l ∙ k

-- A read that gives nothing and then one that gives some bytes together give these bytes.
pub consumes_after : (first then last : Option (List ℕ)) (bytes : List ℕ) → Keeps first then → Consumes then last bytes → Consumes first last bytes
consumes_after None then last bytes k l = tt
consumes_after (Some all) None last bytes k l = absurd k
consumes_after (Some all) (Some more) None bytes k l = absurd l
consumes_after (Some all) (Some more) (Some rest) bytes k l = sym k ∙ l

-- Two reads together give the bytes of the first and then those of the second.
pub consumes_more : (first then last : Option (List ℕ)) (front piece : List ℕ) → Consumes first then front → Consumes then last piece → Consumes first last (front ++ piece)
consumes_more None then last front piece k l = tt
consumes_more (Some all) None last front piece k l = absurd k
consumes_more (Some all) (Some more) None front piece k l = absurd l
consumes_more (Some all) (Some more) (Some rest) front piece k l = k ∙ (ap (λ (b : List ℕ). front ++ b) l ∙ sym (append_assoc front piece rest))

-- The rules for a read that is repeated until it is not interrupted.
pub ruleset begun_again = (keeps_self, keeps_still, consumes_after)
