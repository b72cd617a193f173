-- Texts that are appended one after the other.
use Rattle.std.proofs.Common.{ℕ, zero, suc, refl, append-nil, ◌≡◌, ◌+◌, arith, Bool, true, false, if◌then◌else◌, List, [], ◌++◌, sym, ap, ◌∙◌, append_assoc}
use Rattle.std.specs.Prelude.{Result, OnOk, ⊤}
use Rattle.std.proofs.lemmas.Result.{on_ok_weaker}
use Rattle.std.specs.List.{flat_map, range_with_len}

-- one text and then another
pub two : (old a new x y : List ℕ) → a ≡ old ++ x → new ≡ a ++ y → new ≡ old ++ (x ++ y)
two old a new x y h k = k ∙ (ap (λ bs. bs ++ y) h ∙ append_assoc old x y)

pub three : (old a b new x y z : List ℕ) → a ≡ old ++ x → b ≡ a ++ y → new ≡ b ++ z → new ≡ old ++ (x ++ y ++ z)
three old a b new x y z h k l = two old b new (x ++ y) z (two old a b x y h k) l

-- several texts, one after the other
pub then_2 : {E : Type 0} (r : Result ⊤ E) (old a new x y : List ℕ) → a ≡ old ++ x → OnOk r (new ≡ a ++ y) → OnOk r (new ≡ old ++ (x ++ y))
then_2 r old a new x y h k = on_ok_weaker r (λ last. two old a new x y h last) k

pub then_3 : {E : Type 0} (r : Result ⊤ E) (old a b new x y z : List ℕ) → a ≡ old ++ x → b ≡ a ++ y → OnOk r (new ≡ b ++ z) → OnOk r (new ≡ old ++ (x ++ y ++ z))
then_3 r old a b new x y z h k l = then_2 r old b new (x ++ y) z (two old a b x y h k) l

pub then_4 : {E : Type 0} (r : Result ⊤ E) (old a b c new x y z u : List ℕ) → a ≡ old ++ x → b ≡ a ++ y → c ≡ b ++ z → OnOk r (new ≡ c ++ u)
    → OnOk r (new ≡ old ++ (x ++ y ++ z ++ u))
then_4 r old a b c new x y z u h k l m = then_3 r old b c new (x ++ y) z u (two old a b x y h k) l m

pub then_5 : {E : Type 0} (r : Result ⊤ E) (old a b c d new x y z u v : List ℕ) → a ≡ old ++ x → b ≡ a ++ y → c ≡ b ++ z → d ≡ c ++ u → OnOk r (new ≡ d ++ v)
    → OnOk r (new ≡ old ++ (x ++ y ++ z ++ u ++ v))
then_5 r old a b c d new x y z u v h k l m n = then_4 r old b c d new (x ++ y) z u v (two old a b x y h k) l m n

pub then_6 : {E : Type 0} (r : Result ⊤ E) (old a b c d e new x y z u v w : List ℕ) → a ≡ old ++ x → b ≡ a ++ y → c ≡ b ++ z → d ≡ c ++ u → e ≡ d ++ v → OnOk r (new ≡ e ++ w)
    → OnOk r (new ≡ old ++ (x ++ y ++ z ++ u ++ v ++ w))
then_6 r old a b c d e new x y z u v w h k l m n o = then_5 r old b c d e new (x ++ y) z u v w (two old a b x y h k) l m n o

pub then_7 : {E : Type 0} (r : Result ⊤ E) (old a b c d e f new x y z u v w t : List ℕ) → a ≡ old ++ x → b ≡ a ++ y → c ≡ b ++ z → d ≡ c ++ u → e ≡ d ++ v → f ≡ e ++ w
    → OnOk r (new ≡ f ++ t) → OnOk r (new ≡ old ++ (x ++ y ++ z ++ u ++ v ++ w ++ t))
then_7 r old a b c d e f new x y z u v w t h k l m n o q = then_6 r old b c d e f new (x ++ y) z u v w t (two old a b x y h k) l m n o q

-- the texts of the first n numbers, as a loop makes them
abbrev pub texts_to : (ℕ → List ℕ) → ℕ → List ℕ
texts_to text zero = []
texts_to text (suc n) = texts_to text n ++ text n

-- a loop has appended the texts of the first n numbers
pub record HasTexts (text : ℕ → List ℕ) (old new : List ℕ) (n : ℕ) : Type 0 where
  pub joined : new ≡ old ++ texts_to text n

one_more : (text : ℕ → List ℕ) (a n : ℕ) → flat_map text (range_with_len a (suc n)) ≡ flat_map text (range_with_len a n) ++ text (a + n)
one_more text a zero = append-nil (text a) ∙ ap (λ (k : ℕ). text k) (omega arith)
one_more text a (suc n) =
    let more = flat_map text (range_with_len (a + 1) n) in
    ap (λ bs. text a ++ bs) (one_more text (a + 1) n) ∙ (sym (append_assoc (text a) more (text (a + 1 + n))) ∙ ap (λ (k : ℕ). (text a ++ more) ++ text k) (omega arith))

pub texts_all : (text : ℕ → List ℕ) (n : ℕ) → flat_map text (range_with_len 0 n) ≡ texts_to text n
texts_all text zero = refl
texts_all text (suc n) =
    one_more text 0 n ∙ (ap (λ (k : ℕ). flat_map text (range_with_len 0 n) ++ text k) (omega arith) ∙ ap (λ bs. bs ++ text n) (texts_all text n))

pub text_next : (text : ℕ → List ℕ) (old mid new : List ℕ) (i : ℕ) → HasTexts text old mid i → new ≡ mid ++ text i → HasTexts text old new (i + 1)
text_next text old mid new i h k =
    let more : suc i ≡ i + 1 = omega arith in
    record { joined = two old mid new (texts_to text i) (text i) h.joined k ∙ ap (λ (j : ℕ). old ++ texts_to text j) more }

pub text_end : (text : ℕ → List ℕ) (old mid : List ℕ) (n i : ℕ) → HasTexts text old mid i → i ≡ n → mid ≡ old ++ flat_map text (range_with_len 0 n)
text_end text old mid n i h e = h.joined ∙ ap (λ bs. old ++ bs) (ap (λ (k : ℕ). texts_to text k) e ∙ sym (texts_all text n))

-- the texts of all numbers before another one, and between two
pub text_before : {E : Type 0} (r : Result ⊤ E) (text : ℕ → List ℕ) (old tail mid new : List ℕ) (n i : ℕ) → HasTexts text old mid i → i ≡ n
    → OnOk r (new ≡ mid ++ tail) → OnOk r (new ≡ old ++ (flat_map text (range_with_len 0 n) ++ tail))
text_before r text old tail mid new n i h e k = then_2 r old mid new (flat_map text (range_with_len 0 n)) tail (text_end text old mid n i h e) k

pub text_between : {E : Type 0} (r : Result ⊤ E) (text : ℕ → List ℕ) (old head tail mid new : List ℕ) (n i : ℕ) → HasTexts text (old ++ head) mid i → i ≡ n
    → OnOk r (new ≡ mid ++ tail) → OnOk r (new ≡ old ++ (head ++ flat_map text (range_with_len 0 n) ++ tail))
text_between r text old head tail mid new n i h e k =
    let all = flat_map text (range_with_len 0 n) in
    then_2 r old mid new (head ++ all) tail (text_end text (old ++ head) mid n i h e ∙ append_assoc old head all) k

-- a text after the one before it
pub regroup : {E : Type 0} (r : Result ⊤ E) (old head new x : List ℕ) → OnOk r (new ≡ (old ++ head) ++ x) → OnOk r (new ≡ old ++ (head ++ x))
regroup r old head new x h = on_ok_weaker r (λ last. last ∙ append_assoc old head x) h

-- a text that a test decides
pub when_true : {E : Type 0} (r : Result ⊤ E) (test : Bool) (old new x y : List ℕ) → test ≡ true → OnOk r (new ≡ old ++ x) → OnOk r (new ≡ old ++ (if test then x else y))
when_true r test old new x y e h = on_ok_weaker r (λ last. last ∙ ap (λ (b : Bool). old ++ (if b then x else y)) (sym e)) h

pub when_false : {E : Type 0} (r : Result ⊤ E) (test : Bool) (old new x y : List ℕ) → test ≡ false → OnOk r (new ≡ old ++ y) → OnOk r (new ≡ old ++ (if test then x else y))
when_false r test old new x y e h = on_ok_weaker r (λ last. last ∙ ap (λ (b : Bool). old ++ (if b then x else y)) (sym e)) h
