use Rattle.std.proofs.Common.{refl}
use Rattle.hilti_reader.proofs.Exits.{exits}
use Rattle.hilti_reader.proofs.Chosen.{is_close_brace, took_close_brace}
use Rattle.hilti_reader.proofs.read_chosen.read_close_brace.Goals as goal

pub returns-in_err-place-clause-reads : goal.returns-in_err-place-clause-reads
returns-in_err-place-clause-reads c = exits _ _ _ _ c.from_residual.result c.in_err-place.field-0.0 c.from_residual.ensures.1 c.in_err-place.ensures.reads

pub returns-clause-reads : goal.returns-clause-reads
returns-clause-reads c = took_close_brace _ _ c.in_ok-place.field-0 c.in_ok-place.field-0.place c.in-Mark.field-0 refl c.in-Mark.is c.in_ok-place.ensures.kind c.in_ok-place.ensures.reads

pub unreachable-requires : goal.unreachable-requires
unreachable-requires c = is_close_brace c.in_ok-place.field-0.place c.in_ok-place.field-0.kind c.in_ok-place.ensures.kind c.in_default.not-Mark
