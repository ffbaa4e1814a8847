use Rattle.std.proofs.Common.{◌≡◌, ◌++◌, ap, ◌∙◌}
use Rattle.std.proofs.lemmas.Result.{on_ok_weaker}
use Rattle.hilti_gen.specs.Generator.{frame}
use Rattle.hilti_gen.proofs.Joins.{seven_pieces}
use Rattle.hilti_gen.proofs.frame.push_frame.Goals as goal

pub returns : goal.returns
unfolding frame
returns c =
    let start = c.args.blob.now in
    on_ok_weaker c.append-7.result
    (λ (last : c.append-7.new.self ≡ c.append-6.new.self ++ c.to_be_bytes-2.result).
    seven_pieces start c.append.new.self c.append-2.new.self c.append-3.new.self c.append-4.new.self
    c.append-5.new.self c.append-6.new.self c.append-7.new.self _ _ _ _ _ _ _
    c.in_ok-append.ensures.ok
    c.in_ok-append-2.ensures.ok
    c.in_ok-append-3.ensures.ok
    c.in_ok-append-4.ensures.ok
    (c.in_ok-append-5.ensures.ok ∙ ap (λ l. c.append-4.new.self ++ l) c.to_be_bytes.ensures)
    c.in_ok-append-6.ensures.ok
    (last ∙ ap (λ l. c.append-6.new.self ++ l) c.to_be_bytes-2.ensures))
    c.append-7.ensures.ok
