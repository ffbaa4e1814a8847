-- However a capture is cut, its records are read.
use Rattle.std.proofs.Common.{◌≡◌, ℕ, ◌+◌, List, [], ◌∷◌, ◌++◌, length, sym, ◌∙◌, ap, subst, arith, append_assoc}
use Rattle.std.proofs.lemmas.List.{append-nil, length-append}
use Rattle.hilti_pcap.specs.declared.header.Header.{Header}
use Rattle.hilti_pcap.specs.declared.reader.Next.TheVariants as nexts
use Rattle.hilti_pcap.specs.Records.{HasRecords}
use Rattle.hilti_pcap.specs.Reader.{Held, begun, Step, Fed, Asked, Run, fed, fed_in, given_in, IsReadInPieces}
use Rattle.hilti_pcap.proofs.Records.{record_before, record_length}

-- what the steps give is read of what was held and then of what they feed
pub record Reads (before : Held) (steps : List Step) (after : Held) : Type 0 where
  pub header : after.header ≡ before.header
  pub records : HasRecords before.header (given_in steps) (before.bytes ++ fed_in steps) after.bytes
  pub count : after.at + length after.bytes ≡ before.at + length before.bytes + length (fed_in steps)

pub reads : (steps : List Step) (before after : Held) → Run before steps after → Reads before steps after
reads [] before after e = record {
  header = ap (λ held. held.header) (sym e);
  records = append-nil before.bytes ∙ ap (λ held. held.bytes) e;
  count = omega (arith, ap (λ held. held.at) e, ap (λ held. length held.bytes) e);
}
reads (Fed piece ∷ steps) before after run =
    let rest = reads steps (fed piece before) after run in
    let count = rest.count in
    record {
      header = rest.header;
      records = subst (λ (l : List ℕ). HasRecords before.header (given_in steps) l after.bytes) (append_assoc before.bytes piece (fed_in steps)) rest.records;
      count = omega (arith, count, length-append before.bytes piece, length-append piece (fed_in steps));
    }
reads (Asked (nexts.Packet packet) ∷ steps) before after run =
    let between = run.0 in
    let answer = run.1 in
    let rest = reads steps between after run.2 in
    let count = rest.count in
    record {
      header = rest.header ∙ answer.1;
      records = (
        between.bytes ++ fed_in steps,
        record_before before.header packet before.bytes between.bytes (fed_in steps) answer.0,
        subst (λ (h : Header). HasRecords h (given_in steps) (between.bytes ++ fed_in steps) after.bytes) answer.1 rest.records,
      );
      count = omega (arith, count, answer.2, record_length before.header packet before.bytes between.bytes answer.0);
    }
reads (Asked nexts.More ∷ steps) before after run =
    let same = subst (λ (held : Held). Reads held steps after) run.1.1 (reads steps run.0 after run.2) in
    record { header = same.header; records = same.records; count = same.count }
reads (Asked (nexts.TooLong at captured) ∷ steps) before after run =
    let same = subst (λ (held : Held). Reads held steps after) run.1.2 (reads steps run.0 after run.2) in
    record { header = same.header; records = same.records; count = same.count }

pub in_pieces : (header : Header) (steps : List Step) (after : Held)
    → Run (begun header) steps after → IsReadInPieces header steps after
in_pieces header steps after run =
    let all = reads steps (begun header) after run in
    (all.header, all.records, all.count)
