-- Signers: the right to sign in the name of a general (TOPLAS 1982, section 4, assumption A4: a loyal general's
-- signature cannot be forged).
use Rattle.std.specs.Prelude.{ℕ, ◌<◌}

-- The right to sign in the name of this general, in a campaign with this commander.
pub record Signature : Type 0 where
  pub general : ℕ
  pub commander : ℕ

-- States that both numbers are below 13, the greatest number of generals.
pub record IsSignature (s : Signature) : Type 0 where
  pub general : s.general < 13
  pub commander : s.commander < 13
