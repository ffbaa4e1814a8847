use Rattle.std.proofs.Common.{◌-◌, refl, sym, ap, ◌∙◌}
use Rattle.hilti_outside.specs.Contents.{WhereTold, content}
use Rattle.hilti_pcap.specs.Reader.{fed}
use Rattle.hilti_feed.specs.Fronts.{IsBadBy}
use Rattle.hilti_feed.proofs.Beginnings.{begun, given}
use Rattle.hilti_feed.proofs.feed.open_capture.Goals as goal

pub returns-clause-begun : goal.returns-clause-begun
returns-clause-begun g c = λ all told.
    let parts = c.in_ok-header.ensures.header in
    begun (g.F.Files.files c.read_front.new.files) (g.F.Files.rest c.open_file.new.self) (g.F.Files.rest c.read_front.new.files) all
    (content all c.args.name.now) c.in_ok-front.front parts.0 c.in_ok-header.records.now c.in_ok-header.header c.args.packet c.args.done _
    (c.in_ok-front.ensures.files ∙ c.in_ok-open_file.ensures.files ∙ told) (c.in_ok-open_file.ensures.ok all told) c.in_ok-front.ensures.front
    (sym c.bytes.ensures ∙ parts.1) parts.2 c.in_ok-front.ensures.short refl refl refl refl
    (c.in_ok-feed.ensures.ok ∙ ap (λ h. fed c.in_ok-header.records.now h) c.new-reader.ensures) (ap (λ n. 1073741824 - n) c.len.ensures)

pub returns-in_err-front-clause-bad : goal.returns-in_err-front-clause-bad
returns-in_err-front-clause-bad g c =
    given c.from_residual-in_err-front.result _
    (λ fault. WhereTold (g.F.Files.files c.args.files.now) (λ all. IsBadBy (content all c.args.name.now) fault))
    c.from_residual-in_err-front.ensures.1 (λ all told. c.in_err-front.ensures.bad (content all c.args.name.now))
