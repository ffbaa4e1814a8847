-- How a feed begins.
use Rattle.std.proofs.Common.{◌≡◌, ℕ, ◌+◌, ◌-◌, ◌<◌, ◌≤◌, List, [], ◌++◌, length, take, drop, Option, Some, None, unwrap_or, Result, Ok, Err, IfErr, IsErrAnd, refl, sym, ◌∙◌, ap, subst, inl, inr, arith, append_assoc}
use Rattle.std.proofs.lemmas.List.{take_at, drop_at, take-append-le, length-append, append-nil}
use Rattle.std.specs.Io.KnownBytes.{Consumes, IsAtEnd}
use Rattle.hilti_base.specs.declared.names.FnId.{FnId}
use Rattle.hilti_outside.specs.Contents.{FileMap}
use Rattle.hilti_pcap.specs.declared.header.Header.{Header}
use Rattle.hilti_pcap.specs.Headers.{IsHeader, LacksMagic, HasOtherVersion}
use Rattle.hilti_pcap.specs.Endings.{CaptureEnding, IsRefused, most}
use Rattle.hilti_pcap.specs.Readings.{reading_within}
use Rattle.hilti_feed.specs.declared.feed.FeedFault.{FeedFault}
use Rattle.hilti_feed.specs.declared.tail.Source.TheVariants as sources
use Rattle.hilti_feed.specs.declared.tail.Outcome.TheVariants as outcomes
use Rattle.hilti_feed.specs.declared.progress.Progress.{Progress}
use Rattle.hilti_feed.specs.Known.{Related, WhereKnown}
use Rattle.hilti_feed.specs.Calls.{calls_of}
use Rattle.hilti_feed.specs.Tails.{reading_by, reading_of}
use Rattle.hilti_feed.specs.Progress.{calls_after, ending_after, owed}
use Rattle.hilti_feed.specs.Feeds.{coming, ending, IsReadOf, IsBegun}
use Rattle.hilti_feed.proofs.Windows.{within_room}

-- these bytes stand before what is unread now
abbrev pub Fronts : List ℕ → Option (List ℕ) → Option (List ℕ) → Type 0
Fronts front r r' = Related (λ a b. a ≡ front ++ b) r r'

pub no_front : (r : Option (List ℕ)) → Fronts [] r r
no_front None = tt
no_front (Some a) = refl

pub more_front : (front piece : List ℕ) (r s t : Option (List ℕ)) → Fronts front r s → Consumes s t piece → Fronts (front ++ piece) r t
more_front front piece None s t h k = tt
more_front front piece (Some a) None t h k = absurd h
more_front front piece (Some a) (Some b) None h k = absurd k
more_front front piece (Some a) (Some b) (Some c) h k = h ∙ ap (λ l. front ++ l) k ∙ sym (append_assoc front piece c)

pub last_front : (front : List ℕ) (r s t : Option (List ℕ)) → Fronts front r s → Consumes s t [] → Fronts front r t
last_front front None s t h k = tt
last_front front (Some a) None t h k = absurd h
last_front front (Some a) (Some b) None h k = absurd k
last_front front (Some a) (Some b) (Some c) h k = h ∙ ap (λ l. front ++ l) k

pub known_end : (r : Option (List ℕ)) → IsAtEnd r → WhereKnown r (λ rest. rest ≡ [])
known_end None a = tt
known_end (Some x) a = a

-- a refused front is a refused capture
pub refused_whole : (front rest capture : List ℕ) (e : CaptureEnding) → capture ≡ front ++ rest → (length front < 24 → rest ≡ [])
    → IsRefused front e → IsRefused capture e
refused_whole front rest capture e c all (inl short) =
    let same : capture ≡ front = c ∙ ap (λ l. front ++ l) (all short.0) ∙ append-nil front in
    subst (λ (l : List ℕ). IsRefused l e) (sym same) (inl short)
refused_whole front rest capture e c all (inr (inl magic)) =
    let same : take 24 capture ≡ take 24 front = ap (take 24) c ∙ take-append-le 24 front rest magic.0 in
    inr (inl (omega (arith, magic.0, ap length c, length-append front rest), subst (λ (l : List ℕ). LacksMagic l) (sym same) magic.1, magic.2))
refused_whole front rest capture e c all (inr (inr version)) =
    let same : take 24 capture ≡ take 24 front = ap (take 24) c ∙ take-append-le 24 front rest version.0 in
    inr (inr (omega (arith, version.0, ap length c, length-append front rest), subst (λ (l : List ℕ). HasOtherVersion l) (sym same) version.1, version.2))

-- what is left to read behind a header is what is read of the capture
pub read_behind : (header : Header) (capture front head records rest : List ℕ) → capture ≡ front ++ rest → front ≡ head ++ records
    → IsHeader header head → length front ≤ 16408
    → IsReadOf capture (reading_within header 24 records (most - length front) rest)
read_behind header capture front head records rest c f h l =
    let long : length front ≡ 24 + length records = omega (arith, ap length f, length-append head records, h.whole) in
    let all : capture ≡ head ++ (records ++ rest) = c ∙ ap (λ x. x ++ rest) f ∙ append_assoc head records rest in
    let room : most - length front ≡ most - 24 - length records = omega (arith, long) in
    record {
      header = header;
      begun = subst (λ (x : List ℕ). IsHeader header x) (sym (ap (take 24) all ∙ take_at head (records ++ rest) 24 h.whole)) h;
      behind = ap (λ n. reading_within header 24 records n rest) room
          ∙ within_room header 24 (most - 24) [] records rest (omega (arith, l, long))
          ∙ ap (λ x. reading_within header 24 [] (most - 24) x) (sym (ap (drop 24) all ∙ drop_at head (records ++ rest) 24 h.whole));
    }

pub begun : (fs : Option FileMap) (r r' : Option (List ℕ)) (all : FileMap) (capture front head records : List ℕ) (header : Header)
    (packet : FnId) (done : Option FnId) (p : Progress) → fs ≡ Some all → r ≡ Some capture → Fronts front r r' → front ≡ head ++ records
    → IsHeader header head → length front ≤ 16408 → p.outcome ≡ outcomes.Reading → p.packet ≡ packet → owed p.done_given p.done ≡ done
    → p.tail.source ≡ sources.Open → p.tail.reader ≡ record { header = header; at = 24; bytes = records } → p.tail.room ≡ most - length front
    → IsBegun capture packet done (coming fs r' p) (ending fs r' p)
unfolding reading_of
begun None r r' all capture front head records header packet last p e k f s h l o pp pd so re ro = absurd (cc)
begun (Some x) None r' all capture front head records header packet last p e k f s h l o pp pd so re ro = absurd (cc)
begun (Some x) (Some y) None all capture front head records header packet last p e k f s h l o pp pd so re ro = absurd f
begun (Some x) (Some y) (Some rest) all capture front head records header packet last p e k f s h l o pp pd so re ro =
    let same : y ≡ capture = ap (λ q. unwrap_or q []) k in
    let left : reading_of p.tail rest ≡ reading_within header 24 records (most - length front) rest
    = ap (λ q. reading_by q p.tail rest) so
    ∙ ap (λ q. reading_within q.header q.at q.bytes p.tail.room rest) re
    ∙ ap (λ q. reading_within header 24 records q rest) ro in
    let calls : calls_after p.outcome p (reading_of p.tail rest) ≡ calls_of packet last (reading_within header 24 records (most - length front) rest)
    = ap (λ q. calls_after q p (reading_of p.tail rest)) o ∙ ap (λ q. calls_of q (owed p.done_given p.done) (reading_of p.tail rest)) pp
    ∙ ap (λ q. calls_of packet q (reading_of p.tail rest)) pd ∙ ap (calls_of packet last) left in
    record {
      reading = reading_within header 24 records (most - length front) rest;
      read = read_behind header capture front head records rest (sym same ∙ f) s h l;
      calls = ap (λ q. Some q) calls;
      ends = ap (λ q. Some q) (ap (λ q. ending_after q (reading_of p.tail rest)) o ∙ ap (λ q. q.ending) left);
    }

-- what is handed on is the same fault
pub given : {A : Type 0} (result : Result A FeedFault) (e : FeedFault) (holds : FeedFault → Type 0) → IsErrAnd result (λ fault. fault ≡ e)
    → holds e → IfErr result holds
given (Ok x) e holds same h = tt
given (Err f) e holds same h = subst holds (sym same) h
