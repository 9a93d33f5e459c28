use Rattle.prime.specs.Primality.{admitted_prime}
use Rattle.prime.proofs.Prime.new.Goals as goal

pub returns-clause-prime : goal.returns-clause-prime
returns-clause-prime c = admitted_prime _ c.requires
