-- Calls that only read, one after the other.
use Rattle.rel_model.specs.declared.Quad.{Quad}
use Rattle.rel_model.specs.Quads.{Keeper, QuadStands, ReadsQuads}
use Rattle.rel_model.proofs.QuadLaws.{quad_stays, reads_on}

pub two_reads : {s t u : Keeper} → ReadsQuads s t → ReadsQuads t u → ReadsQuads s u
two_reads {s} {t} {u} a b = reads_on s t u a b

pub three_reads : {s t u v : Keeper} → ReadsQuads s t → ReadsQuads t u → ReadsQuads u v → ReadsQuads s v
three_reads a b c = two_reads (two_reads a b) c

pub four_reads : {s t u v w : Keeper} → ReadsQuads s t → ReadsQuads t u → ReadsQuads u v → ReadsQuads v w → ReadsQuads s w
four_reads a b c d = two_reads (three_reads a b c) d

pub five_reads : {s t u v w x : Keeper} → ReadsQuads s t → ReadsQuads t u → ReadsQuads u v → ReadsQuads v w → ReadsQuads w x → ReadsQuads s x
five_reads a b c d e = two_reads (four_reads a b c d) e

-- after them a quad stands as before
pub stays : {v w : Keeper} {q : Quad} → ReadsQuads v w → QuadStands v q → QuadStands w q
stays {v} {w} {q} r s = quad_stays 0 v w q r.keeps s
