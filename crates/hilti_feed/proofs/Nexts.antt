-- What is left to read behind a record, and where no record follows.
use Rattle.std.proofs.Common.{◌≡◌, ℕ, ◌+◌, ◌<◌, Bool, true, false, List, ◌++◌, length, take, sym, ◌∙◌, ap, subst, inl, inr, arith, ltb, eqb, cond}
use Rattle.std.proofs.lemmas.Bool.{cond-true, cond-false, eq-eqb, ne_eqb}
use Rattle.std.proofs.lemmas.List.{nil_from_length}
use Rattle.hilti_pcap.specs.declared.header.Header.{Header}
use Rattle.hilti_pcap.specs.declared.packet.Packet.{Packet}
use Rattle.hilti_pcap.specs.declared.reader.Next.TheVariants as nexts
use Rattle.hilti_pcap.specs.declared.reader.Ending.TheVariants as endings
use Rattle.hilti_pcap.specs.Reader.{Held, Answers, Finishes}
use Rattle.hilti_pcap.specs.Records.{IsPartial, IsTooLong}
use Rattle.hilti_pcap.specs.Endings.{Whole, Cut, Bad, most}
use Rattle.hilti_pcap.specs.Readings.{reading_from, reading_within, is_too_long}
use Rattle.hilti_pcap.proofs.Records.{record_before, beginning_before, record_length}
use Rattle.hilti_pcap.proofs.Readings.{reading_first, reading_ended, read_after, long_found, not_long_found}
use Rattle.hilti_feed.specs.declared.tail.Tail.{Tail}
use Rattle.hilti_feed.specs.declared.tail.Source.{Source}
use Rattle.hilti_feed.specs.declared.tail.Source.TheVariants as sources
use Rattle.hilti_feed.specs.declared.tail.Outcome.TheVariants as outcomes
use Rattle.hilti_feed.specs.declared.pieces.Found.TheVariants as founds
use Rattle.hilti_feed.specs.Tails.{Agrees, Gives, IsHolding, ends, reading_by, reading_of, weight, open_weight}

-- the same tail
same_by : (q : Source) (t t' : Tail) (rest : List ℕ) → t'.room ≡ t.room → t'.reader ≡ t.reader → reading_by q t' rest ≡ reading_by q t rest
same_by sources.Open t t' rest m e =
    ap (λ r. reading_within r.header r.at r.bytes t'.room rest) e ∙ ap (λ n. reading_within t.reader.header t.reader.at t.reader.bytes n rest) m
same_by sources.Ended t t' rest m e = ap (λ r. reading_from r.header r.at r.bytes false) e
same_by sources.Larger t t' rest m e = ap (λ r. reading_from r.header r.at r.bytes true) e

same_tail : (t t' : Tail) (rest : List ℕ) → t'.source ≡ t.source → t'.room ≡ t.room → t'.reader ≡ t.reader → reading_of t' rest ≡ reading_of t rest
unfolding reading_of
same_tail t t' rest s m e = ap (λ q. reading_by q t' rest) s ∙ same_by t.source t t' rest m e

-- a record at the front
first_from : (t t' : Tail) (p : Packet) (more : List ℕ) (larger : Bool) → Answers t.reader (nexts.Packet p) t'.reader
    → reading_from t.reader.header t.reader.at (t.reader.bytes ++ more) larger
    ≡ read_after p (reading_from t'.reader.header t'.reader.at (t'.reader.bytes ++ more) larger)
first_from t t' p more larger a =
    reading_first t.reader.header t.reader.at p (t.reader.bytes ++ more) (t'.reader.bytes ++ more) larger
    (record_before t.reader.header p t.reader.bytes t'.reader.bytes more a.0)
    ∙ ap (λ h. read_after p (reading_from h (t.reader.at + (16 + length p.bytes)) (t'.reader.bytes ++ more) larger)) (sym a.1)
    ∙ ap (λ n. read_after p (reading_from t'.reader.header n (t'.reader.bytes ++ more) larger)) (sym a.2)

first_held : (t t' : Tail) (p : Packet) (larger : Bool) → Answers t.reader (nexts.Packet p) t'.reader
    → reading_from t.reader.header t.reader.at t.reader.bytes larger ≡ read_after p (reading_from t'.reader.header t'.reader.at t'.reader.bytes larger)
first_held t t' p larger a =
    reading_first t.reader.header t.reader.at p t.reader.bytes t'.reader.bytes larger a.0
    ∙ ap (λ h. read_after p (reading_from h (t.reader.at + (16 + length p.bytes)) t'.reader.bytes larger)) (sym a.1)
    ∙ ap (λ n. read_after p (reading_from t'.reader.header n t'.reader.bytes larger)) (sym a.2)

first_by : (q : Source) (t t' : Tail) (p : Packet) (rest : List ℕ) → t'.room ≡ t.room → Answers t.reader (nexts.Packet p) t'.reader
    → reading_by q t rest ≡ read_after p (reading_by q t' rest)
first_by sources.Open t t' p rest m a =
    first_from t t' p (take t.room rest) (ltb t.room (length rest)) a
    ∙ ap (λ n. read_after p (reading_within t'.reader.header t'.reader.at t'.reader.bytes n rest)) (sym m)
first_by sources.Ended t t' p rest m a = first_held t t' p false a
first_by sources.Larger t t' p rest m a = first_held t t' p true a

pub record_gives : (t t' : Tail) (p : Packet) (rest : List ℕ) → t'.source ≡ t.source → t'.room ≡ t.room → Answers t.reader (nexts.Packet p) t'.reader
    → Gives (founds.Packet p) (reading_of t rest) (reading_of t' rest)
unfolding reading_of
record_gives t t' p rest s m a = first_by t.source t t' p rest m a ∙ ap (λ q. read_after p (reading_by q t' rest)) (sym s)

pub record_lighter : (t t' : Tail) (p : Packet) → t'.source ≡ t.source → t'.room ≡ t.room → Answers t.reader (nexts.Packet p) t'.reader → weight t' < weight t
record_lighter t t' p s m a = omega (arith, ap open_weight s, m, record_length t.reader.header p t.reader.bytes t'.reader.bytes a.0)

-- a record that is too long
long_from : (h : Header) (captured at : ℕ) (bytes more : List ℕ) (larger : Bool) → IsTooLong h captured bytes
    → reading_from h at (bytes ++ more) larger ≡ ends (Bad at 4)
long_from h captured at bytes more larger long =
    let there : IsTooLong h captured (bytes ++ more) = record {
      fields = long.fields;
      behind = long.behind ++ more;
      begins = beginning_before h.big long.fields bytes long.behind more long.begins;
      captured_is = long.captured_is;
      long = long.long;
    } in
    reading_ended h at (bytes ++ more) larger (inr (captured, there))
    ∙ ap ends (cond-true (is_too_long h (bytes ++ more)) _ _ (long_found h captured (bytes ++ more) there))

long_held : (h : Header) (captured at : ℕ) (bytes : List ℕ) (larger : Bool) → IsTooLong h captured bytes
    → reading_from h at bytes larger ≡ ends (Bad at 4)
long_held h captured at bytes larger long =
    reading_ended h at bytes larger (inr (captured, long))
    ∙ ap ends (cond-true (is_too_long h bytes) _ _ (long_found h captured bytes long))

long_by : (q : Source) (t : Tail) (captured : ℕ) (rest : List ℕ) → IsTooLong t.reader.header captured t.reader.bytes
    → reading_by q t rest ≡ ends (Bad t.reader.at 4)
long_by sources.Open t captured rest long = long_from t.reader.header captured t.reader.at t.reader.bytes (take t.room rest) (ltb t.room (length rest)) long
long_by sources.Ended t captured rest long = long_held t.reader.header captured t.reader.at t.reader.bytes false long
long_by sources.Larger t captured rest long = long_held t.reader.header captured t.reader.at t.reader.bytes true long

pub long_gives : (t t' : Tail) (at captured : ℕ) (rest : List ℕ) → t'.source ≡ t.source → t'.room ≡ t.room
    → Answers t.reader (nexts.TooLong at captured) t'.reader → Gives (founds.Ended (outcomes.Bad at 4)) (reading_of t rest) (reading_of t' rest)
unfolding reading_of
long_gives t t' at captured rest s m a =
    let same = ap (λ q. reading_by q t' rest) s ∙ same_by t.source t t' rest m a.2 in
    (same, same ∙ long_by t.source t captured rest a.0 ∙ ap (λ n. ends (Bad n 4)) (sym a.1))

-- no whole record
pub holding : (t t' : Tail) → t'.source ≡ t.source → t'.room ≡ t.room → Answers t.reader nexts.More t'.reader → IsHolding t t'
holding t t' s m a = record {
  partial = subst (λ (r : Held). IsPartial r.header r.bytes) (sym a.1) a.0;
  same = λ rest. same_tail t t' rest s m a.1;
  weight_is = omega (arith, ap open_weight s, m, ap (λ r. length r.bytes) a.1);
}

-- the ending where no record follows
partial_ends : (h : Header) (at : ℕ) (bytes : List ℕ) (larger : Bool) → IsPartial h bytes
    → reading_from h at bytes larger ≡ ends (cond larger (Bad most 5) (cond (eqb (length bytes) 0) Whole (Cut at)))
partial_ends h at bytes larger partial =
    reading_ended h at bytes larger (inl partial)
    ∙ ap ends (cond-false (is_too_long h bytes) _ _ (not_long_found h bytes partial))

pub ends_larger : (t : Tail) (rest : List ℕ) → t.source ≡ sources.Larger → IsPartial t.reader.header t.reader.bytes
    → Agrees (outcomes.Bad 1073741824 5) (reading_of t rest)
unfolding reading_of
ends_larger t rest s partial = ap (λ q. reading_by q t rest) s ∙ partial_ends t.reader.header t.reader.at t.reader.bytes true partial

pub ends_whole : (t : Tail) (rest : List ℕ) → t.source ≡ sources.Ended → IsPartial t.reader.header t.reader.bytes
    → Finishes t.reader endings.Whole → Agrees outcomes.Whole (reading_of t rest)
unfolding reading_of
ends_whole t rest s partial e =
    ap (λ q. reading_by q t rest) s ∙ partial_ends t.reader.header t.reader.at t.reader.bytes false partial
    ∙ ap ends (cond-true (eqb (length t.reader.bytes) 0) _ _ (eq-eqb _ _ (ap length e)))

pub ends_cut : (t : Tail) (rest : List ℕ) (at : ℕ) → t.source ≡ sources.Ended → IsPartial t.reader.header t.reader.bytes
    → Finishes t.reader (endings.Cut at) → Agrees (outcomes.Cut at) (reading_of t rest)
unfolding reading_of
ends_cut t rest at s partial e =
    ap (λ q. reading_by q t rest) s ∙ partial_ends t.reader.header t.reader.at t.reader.bytes false partial
    ∙ ap ends (cond-false (eqb (length t.reader.bytes) 0) _ _ (ne_eqb _ _ (λ l. e.0 (nil_from_length t.reader.bytes l))))
    ∙ ap (λ n. ends (Cut n)) (sym e.1)
