use Rattle.std.proofs.Common.{◌≡◌, ◌++◌, ap, ◌∙◌}
use Rattle.std.proofs.lemmas.Result.{on_ok_weaker}
use Rattle.hilti_gen.specs.Generator.{record_header}
use Rattle.hilti_gen.proofs.Joins.{four_pieces}
use Rattle.hilti_gen.proofs.frame.push_record_header.Goals as goal

pub returns : goal.returns
unfolding record_header
returns c =
    let start = c.args.blob.now in
    on_ok_weaker c.append-4.result
    (λ (last : c.append-4.new.self ≡ c.append-3.new.self ++ c.to_le_bytes-4.result).
    four_pieces start c.append.new.self c.append-2.new.self c.append-3.new.self c.append-4.new.self _ _ _ _
    (c.in_ok-append.ensures.ok ∙ ap (λ l. start ++ l) c.to_le_bytes.ensures)
    (c.in_ok-append-2.ensures.ok ∙ ap (λ l. c.append.new.self ++ l) c.to_le_bytes-2.ensures)
    (c.in_ok-append-3.ensures.ok ∙ ap (λ l. c.append-2.new.self ++ l) c.to_le_bytes-3.ensures)
    (last ∙ ap (λ l. c.append-3.new.self ++ l) c.to_le_bytes-4.ensures))
    c.append-4.ensures.ok
