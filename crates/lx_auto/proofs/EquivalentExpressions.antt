-- Equivalent expressions, for which the passes have equal results. Parts may be replaced by equivalent ones, and joined from the left or from the
-- right.
use Rattle.std.proofs.Common.{◌≡◌, ◌+◌, Bool, true, false, ◌&&◌, ◌||◌, refl, ◌∙◌, ap, ap₂, arith}
use Rattle.lx_auto.specs.Unfolded.{Unfolded, position_count, nullable}
use Rattle.lx_auto.specs.Outlines.{AreEquivalentExpressions}
use Rattle.lx_auto.specs.Passing.{ended, read_list}
use Rattle.lx_auto.specs.Chunks.{binary_expression, unary_expression}
use Rattle.lx_auto.specs.declared.rules.chunk.BinaryOperator.{BinaryOperator}
use Rattle.lx_auto.specs.declared.rules.chunk.BinaryOperator.TheVariants.{Concatenation, Alternation}
use Rattle.lx_auto.specs.declared.rules.chunk.UnaryOperator.{UnaryOperator}
use Rattle.lx_auto.specs.declared.rules.chunk.UnaryOperator.TheVariants.{Optional, OneOrMore}

pub equivalent_refl : (e : Unfolded) → AreEquivalentExpressions e e
equivalent_refl e = record { count = refl; null = refl; ends = λ marks p. refl; reads = λ marks f p old. refl; no_empty = λ s. s }

pub equivalent_trans : (d e h : Unfolded) → AreEquivalentExpressions d e → AreEquivalentExpressions e h → AreEquivalentExpressions d h
equivalent_trans d e h x y = record {
  count = x.count ∙ y.count;
  null = x.null ∙ y.null;
  ends = λ marks p. x.ends marks p ∙ y.ends marks p;
  reads = λ marks f p old. x.reads marks f p old ∙ y.reads marks f p old;
  no_empty = λ s. x.no_empty (y.no_empty s);
}

pub equivalent_unary : (operator : UnaryOperator) (a b : Unfolded) → AreEquivalentExpressions a b → AreEquivalentExpressions (unary_expression operator a) (unary_expression operator b)
equivalent_unary Optional a b x = record { count = x.count; null = refl; ends = x.ends; reads = x.reads; no_empty = x.no_empty }
equivalent_unary OneOrMore a b x = record {
  count = x.count;
  null = x.null;
  ends = x.ends;
  reads = λ marks f p old. ap (λ v. read_list marks a (f || v) p old) (x.ends marks p) ∙ x.reads marks (f || ended marks b p) p old;
  no_empty = x.no_empty;
}

pub equivalent_binary : (operator : BinaryOperator) (a b c d : Unfolded) → AreEquivalentExpressions a c → AreEquivalentExpressions b d → AreEquivalentExpressions (binary_expression operator a b) (binary_expression operator c d)
equivalent_binary Concatenation a b c d x y = record {
  count = ap₂ (λ m n. m + n) x.count y.count;
  null = ap₂ (λ f g. f && g) x.null y.null;
  ends = λ marks p.
      ap₂ (λ u v. u || v) (ap (λ n. ended marks b (p + n)) x.count ∙ y.ends marks (p + position_count c))
      (ap₂ (λ u v. u && v) (x.ends marks p) y.null);
  reads = λ marks f p old.
      let g = (f && nullable c) || ended marks c p in
      let k = p + position_count c in
      x.reads marks f p (read_list marks b ((f && nullable a) || ended marks a p) (p + position_count a) old)
      ∙ ap (λ l. read_list marks c f p l)
      (ap₂ (λ u v. read_list marks b ((f && u) || v) (p + position_count a) old) x.null (x.ends marks p)
      ∙ ap (λ n. read_list marks b g (p + n) old) x.count
      ∙ y.reads marks g k old);
  no_empty = λ s. (x.no_empty s.0, y.no_empty s.1);
}
equivalent_binary Alternation a b c d x y = record {
  count = ap₂ (λ m n. m + n) x.count y.count;
  null = ap₂ (λ f g. f || g) x.null y.null;
  ends = λ marks p.
      ap₂ (λ u v. u || v) (x.ends marks p) (ap (λ n. ended marks b (p + n)) x.count ∙ y.ends marks (p + position_count c));
  reads = λ marks f p old.
      x.reads marks f p (read_list marks b f (p + position_count a) old)
      ∙ ap (λ l. read_list marks c f p l) (ap (λ n. read_list marks b f (p + n) old) x.count ∙ y.reads marks f (p + position_count c) old);
  no_empty = λ s. (x.no_empty s.0, y.no_empty s.1);
}

and_joined : (a b c : Bool) → (a && b) && c ≡ a && (b && c)
and_joined true b c = refl
and_joined false b c = refl

or_joined : (a b c : Bool) → (a || b) || c ≡ a || (b || c)
or_joined true b c = refl
or_joined false b c = refl

-- the ends of three expressions, one after the other
ends_joined : (ea eb ec nb nc : Bool) → ec || ((eb || (ea && nb)) && nc) ≡ (ec || (eb && nc)) || (ea && (nb && nc))
ends_joined true true true true true = refl
ends_joined true true true true false = refl
ends_joined true true true false true = refl
ends_joined true true true false false = refl
ends_joined true true false true true = refl
ends_joined true true false true false = refl
ends_joined true true false false true = refl
ends_joined true true false false false = refl
ends_joined true false true true true = refl
ends_joined true false true true false = refl
ends_joined true false true false true = refl
ends_joined true false true false false = refl
ends_joined true false false true true = refl
ends_joined true false false true false = refl
ends_joined true false false false true = refl
ends_joined true false false false false = refl
ends_joined false true true true true = refl
ends_joined false true true true false = refl
ends_joined false true true false true = refl
ends_joined false true true false false = refl
ends_joined false true false true true = refl
ends_joined false true false true false = refl
ends_joined false true false false true = refl
ends_joined false true false false false = refl
ends_joined false false true true true = refl
ends_joined false false true true false = refl
ends_joined false false true false true = refl
ends_joined false false true false false = refl
ends_joined false false false true true = refl
ends_joined false false false true false = refl
ends_joined false false false false true = refl
ends_joined false false false false false = refl

-- the case that the third is entered
enters_joined : (f na nb ea eb : Bool) → (f && (na && nb)) || (eb || (ea && nb)) ≡ (((f && na) || ea) && nb) || eb
enters_joined true true true true true = refl
enters_joined true true true true false = refl
enters_joined true true true false true = refl
enters_joined true true true false false = refl
enters_joined true true false true true = refl
enters_joined true true false true false = refl
enters_joined true true false false true = refl
enters_joined true true false false false = refl
enters_joined true false true true true = refl
enters_joined true false true true false = refl
enters_joined true false true false true = refl
enters_joined true false true false false = refl
enters_joined true false false true true = refl
enters_joined true false false true false = refl
enters_joined true false false false true = refl
enters_joined true false false false false = refl
enters_joined false true true true true = refl
enters_joined false true true true false = refl
enters_joined false true true false true = refl
enters_joined false true true false false = refl
enters_joined false true false true true = refl
enters_joined false true false true false = refl
enters_joined false true false false true = refl
enters_joined false true false false false = refl
enters_joined false false true true true = refl
enters_joined false false true true false = refl
enters_joined false false true false true = refl
enters_joined false false true false false = refl
enters_joined false false false true true = refl
enters_joined false false false true false = refl
enters_joined false false false false true = refl
enters_joined false false false false false = refl

pub equivalent_assoc : (operator : BinaryOperator) (a b c : Unfolded) → AreEquivalentExpressions (binary_expression operator (binary_expression operator a b) c) (binary_expression operator a (binary_expression operator b c))
equivalent_assoc Concatenation a b c = record {
  count = omega arith;
  null = and_joined (nullable a) (nullable b) (nullable c);
  ends = λ marks p.
      let at : p + (position_count a + position_count b) ≡ p + position_count a + position_count b = omega arith in
      let eb = ended marks b (p + position_count a) in
      ap (λ n. ended marks c n || ((eb || (ended marks a p && nullable b)) && nullable c)) at
      ∙ ends_joined (ended marks a p) eb (ended marks c (p + position_count a + position_count b)) (nullable b) (nullable c);
  reads = λ marks f p old.
      let at : p + (position_count a + position_count b) ≡ p + position_count a + position_count b = omega arith in
      let k = p + position_count a in
      let g = (f && nullable a) || ended marks a p in
      ap (λ l. read_list marks a f p (read_list marks b g k l))
      (ap₂ (λ h n. read_list marks c h n old) (enters_joined f (nullable a) (nullable b) (ended marks a p) (ended marks b k)) at);
  no_empty = λ s. ((s.0, s.1.0), s.1.1);
}
equivalent_assoc Alternation a b c = record {
  count = omega arith;
  null = or_joined (nullable a) (nullable b) (nullable c);
  ends = λ marks p.
      let at : p + (position_count a + position_count b) ≡ p + position_count a + position_count b = omega arith in
      ap (λ n. (ended marks a p || ended marks b (p + position_count a)) || ended marks c n) at
      ∙ or_joined (ended marks a p) (ended marks b (p + position_count a)) (ended marks c (p + position_count a + position_count b));
  reads = λ marks f p old.
      let at : p + (position_count a + position_count b) ≡ p + position_count a + position_count b = omega arith in
      ap (λ n. read_list marks a f p (read_list marks b f (p + position_count a) (read_list marks c f n old))) at;
  no_empty = λ s. ((s.0, s.1.0), s.1.1);
}
