use Rattle.std.proofs.Common.{◌∙◌, sym}
use Rattle.hilti_kinds.specs.Kinds.{IsPiece}
use Rattle.hilti_reader.proofs.Taking.{refused, behind_first}
use Rattle.hilti_reader.proofs.Payloads.{took_keyword, seen_kind, first_piece}
use Rattle.hilti_reader.proofs.cursor.Cursor.keyword.Goals as goal

pub returns-then-not-sees-clause-reads : goal.returns-then-not-sees-clause-reads
returns-then-not-sees-clause-reads c = refused _ _ _ (sym c.sees.ensures ∙ c.if-not-sees.true) c.refusal.ensures.explains

pub invariant_of-self-2 : goal.invariant_of-self-2
invariant_of-self-2 c = behind_first IsPiece _ _ c.in-Some.piece c.in-Some.ensures.items c.self.invariant

pub returns-clause-reads : goal.returns-clause-reads
returns-clause-reads c =
    took_keyword c.args.kinds.now c.args.self.now c.pop_front.new.self.items c.in-Some.piece (sym c.self.view_is ∙ c.in-Some.ensures.items) (sym c.sees.ensures ∙ c.if-not-sees.false)
    (first_piece _ _ c.in-Some.piece c.in-Some.ensures.items c.self.invariant) c.requires

pub returns-clause-kind : goal.returns-clause-kind
returns-clause-kind c = seen_kind c.args.kinds.now c.args.self.now c.pop_front.new.self.items c.in-Some.piece (sym c.self.view_is ∙ c.in-Some.ensures.items) (sym c.sees.ensures ∙ c.if-not-sees.false)
