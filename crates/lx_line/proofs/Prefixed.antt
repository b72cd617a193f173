-- Prefixes that are made in a buffer.
use Rattle.std.proofs.Common.{◌≡◌, ℕ, List, ◌++◌, ap, sym, append_assoc}
use Rattle.std.specs.Prelude.{MatchOption, None, Option, Some, codes, decimal, replicate}
use Rattle.std.proofs.lemmas.List.Elements.{All-replicate}
use Rattle.lx_rules.specs.declared.rule.Kind.{Kind}
use Rattle.lx_tables.specs.Labels.{kind_of_label}
use Rattle.lx_piece.specs.Plans.{Planned}
use Rattle.lx_line.specs.Prefixes.{ArePrefixesOf, IsPrefixOf, class_and_kind, prefix_text}
use Rattle.lx_line.specs.Lines.{name_text}
use Rattle.lx_line.specs.declared.prefixes.Prefix.{Prefix}
use Rattle.lx_line.specs.declared.prefixes.Slot.{Slot}
use Rattle.lx_line.specs.Placed.{Placed}
use Rattle.lx_line.proofs.Places.{Placed-is, Placed-then}

-- the prefixes at first
pub first_prefixes : (texts : Option Kind → List ℕ) (prefix : Prefix) → IsPrefixOf (texts None) prefix → ArePrefixesOf texts (record { slots = replicate 32 (record { label = 1; prefix = prefix }) })
first_prefixes texts prefix is = record { slots = All-replicate (λ (slot : Slot). IsPrefixOf (texts (kind_of_label slot.label)) slot.prefix) 32 (record { label = 1; prefix = prefix }) is }

-- the bytes that were placed, and then further ones, unless these are too long
pub placed_then : {a b xs : List ℕ} {i j : ℕ} (c ys all : List ℕ) (r : Option ℕ) → Placed a b i xs j → xs ++ ys ≡ all → MatchOption r (Unit {0}) (λ end. Placed b c j ys end) → MatchOption r (Unit {0}) (λ end. Placed a c i all end)
placed_then c ys all None p e q = tt
placed_then c ys all (Some end) p e q = Placed-is (Placed-then p q) e

pub kind_is : (plan : Planned) (kind : Kind) → codes "T " ++ (name_text plan kind ++ codes " ") ≡ class_and_kind plan (Some kind)
kind_is plan kind = sym (append_assoc (codes "T ") (name_text plan kind) (codes " "))

pub prefix_is : (plan : Planned) (n file : ℕ) (kind : Option Kind) → n ≡ file → (decimal n ++ codes " ") ++ class_and_kind plan kind ≡ prefix_text plan file kind
prefix_is plan n file kind e = ap (λ (k : ℕ). (decimal k ++ codes " ") ++ class_and_kind plan kind) e
