-- What holds of the elements so far holds with one element more.
use Rattle.std.proofs.Common.{◌≡◌, ℕ, ◌+◌, ◌<◌, ◌≤◌, suc, List, [], ◌∷◌, ◌++◌, length, take, drop, slice_get, slice_index_or, Some, IsSomeAnd, refl, ap, sym, ◌∙◌, subst, All}
use Rattle.std.specs.List.{remove}
use Rattle.std.proofs.Math.Seq.{drop-cons}
use Rattle.std.proofs.lemmas.Option.{slice_get_read}
use Rattle.std.proofs.lemmas.List.{take_more, take_all, take-append-drop}
use Rattle.std.proofs.lemmas.List.Elements.{All-append, All-push, All-weaker, All-contains}
use Rattle.hilti_core.specs.declared.pieces.Item.{Item}
use Rattle.hilti_core.specs.declared.pieces.Item.TheVariants.{Send, Line}
use Rattle.hilti_pool.specs.declared.seat.Away.{Away}
use Rattle.hilti_pool.specs.declared.seat.Posted.{Posted}
use Rattle.hilti_pool.specs.declared.hall.Hall.{Hall}
use Rattle.hilti_pool.specs.Hall.{receivers, IsFor, IsFirstFor, TakesFirst, HasLogRoom, HasNothing, Grows}

pub all_more : {A : Type 0} (P : A → Type 0) (xs : List A) (n : ℕ) (x : A) → n < length xs → x ≡ slice_index_or xs n x → All P (take n xs) → P x → All P (take (n + 1) xs)
all_more P xs n x low is h here = subst (All P) (sym (take_more xs n x low ∙ ap (λ y. take n xs ++ y ∷ []) (sym is))) (All-push P (take n xs) x h here)

pub all_taken : {A : Type 0} (P : A → Type 0) (xs : List A) (n : ℕ) → length xs ≤ n → All P (take n xs) → All P xs
all_taken P xs n high h = subst (All P) (take_all n xs high) h

receivers-append : (xs ys : List Item) → receivers (xs ++ ys) ≡ receivers xs ++ receivers ys
receivers-append [] ys = refl
receivers-append (Send to call ∷ xs) ys = ap (λ l. to.n ∷ l) (receivers-append xs ys)
receivers-append (Line text ∷ xs) ys = receivers-append xs ys

-- what holds of the receivers of the items so far holds with one item more
pub one_receiver : (P : ℕ → Type 0) (items : List Item) (n : ℕ) (item : Item) → n < length items → item ≡ slice_index_or items n item → All P (receivers (take n items)) → All P (receivers (item ∷ [])) →
    All P (receivers (take (n + 1) items))
one_receiver P items n item low is h here =
    subst (λ l. All P (receivers l)) (sym (take_more items n item low ∙ ap (λ y. take n items ++ y ∷ []) (sym is)))
    (subst (All P) (sym (receivers-append (take n items) (item ∷ []))) (All-append P (receivers (take n items)) (receivers (item ∷ [])) h here))

-- the call that is taken out of its place is the first for its thread
pub takes_at : (r : ℕ) (posted : Posted) (old new : List Posted) (place : ℕ) → IsFirstFor r old place → posted ≡ slice_index_or old place posted → new ≡ remove old place → TakesFirst r posted.call old new
takes_at r posted old new place first value is = record {
  front = take place old;
  first = posted;
  back = drop (suc place) old;
  was = sym (take-append-drop place old) ∙ ap (λ l. take place old ++ l) (drop-cons old place posted first.0 ∙ ap (λ x. x ∷ drop (suc place) old) (sym value));
  is = is;
  others = first.1;
  receiver = subst (λ o. IsSomeAnd o (IsFor r)) here first.2;
  call = refl;
}
  where
    here : slice_get old place ≡ Some posted
    here = slice_get_read old (length old) place posted refl first.0 value

-- where no one who is out is this worker, it has nothing
pub nothing_out : (worker : ℕ) (outs : List Away) → All (λ away. ¬ (away.worker ≡ worker)) outs → HasNothing worker outs
nothing_out worker outs h thread here = All-contains (λ away. ¬ (away.worker ≡ worker)) outs (record { worker = worker; thread = thread }) h here refl

pub more_logs : {V : Type 0} (count place : ℕ) (old new : Hall V) (away : Away) → Grows old new → place < length old.outs.items → away ≡ slice_index_or old.outs.items place away →
    All (λ a. HasLogRoom count old a.thread.n) (take place old.outs.items) → HasLogRoom count new away.thread.n → All (λ a. HasLogRoom count new a.thread.n) (take (place + 1) new.outs.items)
more_logs count place old new away g low is h here =
    subst (λ l. All (λ a. HasLogRoom count new a.thread.n) (take (place + 1) l)) (sym g.outs)
    (all_more (λ a. HasLogRoom count new a.thread.n) old.outs.items place away low is
    (All-weaker (λ a. HasLogRoom count old a.thread.n) (λ a. HasLogRoom count new a.thread.n) (λ a. g.logs count a.thread.n) (take place old.outs.items) h) here)
