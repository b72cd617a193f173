use Rattle.std.proofs.Common.{ap, slice_index}
use Rattle.lx_automaton.specs.Automata.{Machine, IsMachine, HasByteClasses, class_target}
use Rattle.lx_tables.specs.Model.{AreByteClasses}
use Rattle.lx_tables.proofs.tables.Tables.classes.Goals as goal

-- numbered and different classes are the byte classes
byte_classes : (m : Machine) → IsMachine m → HasByteClasses m → AreByteClasses m
byte_classes m is has = record {
  alike = λ a b ha hb. (
    (λ e s hs. ap (λ class. class_target m s class) e),
    (λ h. has.different (slice_index m.classes a) (slice_index m.classes b) (is.below a ha) (is.below b hb) h),
  );
  numbered = has.numbered;
}

pub returns-clause-classes : goal.returns-clause-classes
returns-clause-classes c = rw (← c.self.view_is) (byte_classes _ c.self.invariant.0.machine c.self.invariant.0.classes)
