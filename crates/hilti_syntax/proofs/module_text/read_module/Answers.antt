use Rattle.std.proofs.Common.{◌∙◌, ap}
use Rattle.hilti_pieces.specs.Pieces.{pieces_of}
use Rattle.hilti_reader.specs.Readers.{first_place}
use Rattle.hilti_pieces.specs.Ends.{end_of}
use Rattle.hilti_syntax.proofs.Bounds.{pieces_within}
use Rattle.hilti_syntax.proofs.Texts.{by_grammar, err_refusal}
use Rattle.hilti_syntax.proofs.module_text.read_module.Goals as goal

pub returns-clause-refusal : goal.returns-clause-refusal
returns-clause-refusal c = λ place code e.
    let says = c.refusal_at.ensures place code (err_refusal _ _ e) in
    by_grammar c.args.file c.args.text.now code place _ c.in_ok-tokens.tokens c.in-Err.stop c.in_ok-tokens.ensures.tokens
    (c.read_all.ensures.refusal c.in_ok-tokens.tokens (end_of c.args.file c.args.text.now) c.in-Err.stop (c.new-cursor.ensures ∙ c.in_ok-pieces.ensures.pieces ∙ ap (pieces_of c.in_ok-tokens.tokens) c.end_place-end.ensures) c.in-Err.is says.0)
    (says.1 ∙ c.next_place.ensures ∙ ap (first_place c.read_all.new.cursor) c.end_place-end.ensures) says.2

pub read_all-requires : goal.read_all-requires
read_all-requires c =
    pieces_within c.args.file c.args.text.now c.in_ok-tokens.tokens c.end_place-end.result 1048576 _ c.in_ok-tokens.ensures.tokens c.requires
    (c.new-cursor.ensures ∙ c.in_ok-pieces.ensures.pieces)
