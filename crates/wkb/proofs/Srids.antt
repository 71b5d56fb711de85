-- What is not read tells no reference system.
use Rattle.std.proofs.Common.{◌≡◌, ℕ, List, Result, ap}
use Rattle.wkb.specs.declared.fault.Flaw.{Flaw}
use Rattle.wkb.specs.declared.fault.LayoutFault.{LayoutFault}
use Rattle.wkb.specs.declared.fault.LayoutFault.TheVariants.{Refused, Flawed}
use Rattle.wkb.specs.declared.header.Header.{Header}
use Rattle.wkb.specs.Format.{Fails, IsFlaw, number_or_0, srid_in}

pub no_number : (e : LayoutFault) (read : Result ℕ Flaw) → IsFlaw e → Fails e read → number_or_0 read ≡ 0
no_number (Refused r) read is h = absurd is
no_number (Flawed flaw) read is h = ap number_or_0 h

pub none_read : (e : LayoutFault) (bytes : List ℕ) (read : Result Header Flaw) → IsFlaw e → Fails e read → srid_in bytes read ≡ 0
none_read (Refused r) bytes read is h = absurd is
none_read (Flawed flaw) bytes read is h = ap (srid_in bytes) h
