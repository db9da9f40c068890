-- Quarters that were read before a call are quarters in it.
use Rattle.std.proofs.Common.{◌∙◌}
use Rattle.rel_model.specs.declared.Quad.{Quad}
use Rattle.rel_model.specs.declared.Quarters.{Quarters}
use Rattle.rel_model.specs.Quads.{Keeper, QuadStands, KeepsQuads, ReadsQuads, AreQuarters}
use Rattle.rel_model.proofs.QuadLaws.{keeps_on, keeps_itself, quad_stays, quad_cells-stay, quarters-stay, reads_on}

-- four calls that only read
pub reads_four : {s0 s1 s2 s3 s4 : Keeper} → ReadsQuads s0 s1 → ReadsQuads s1 s2 → ReadsQuads s2 s3 → ReadsQuads s3 s4 → ReadsQuads s0 s4
reads_four a b c d = reads_on _ _ _ (reads_on _ _ _ (reads_on _ _ _ a b) c) d

-- quarters that were read earlier are the quad's quarters now, since calls that only read keep all sets
pub quarters_now : (u v w : Keeper) (q : Quad) (four : Quarters) → KeepsQuads 0 u w → KeepsQuads 0 v w → QuadStands u q → AreQuarters u v q four → AreQuarters w w q four
quarters_now u v w q four k l s a =
    let b = quarters-stay 0 u v w q four l a in
    record {
      nw = b.nw;
      ne = b.ne;
      sw = b.sw;
      se = b.se;
      nw_height = b.nw_height;
      ne_height = b.ne_height;
      sw_height = b.sw_height;
      se_height = b.se_height;
      means = quad_cells-stay 0 u w q k s ∙ b.means;
    }

-- the quarters of a quad's quarters are known
pub record AreRead (w : Keeper) (four nw ne sw se : Quarters) : Type 0 where
  pub nw_stands : QuadStands w four.nw
  pub ne_stands : QuadStands w four.ne
  pub sw_stands : QuadStands w four.sw
  pub se_stands : QuadStands w four.se
  pub nw_quarters : AreQuarters w w four.nw nw
  pub ne_quarters : AreQuarters w w four.ne ne
  pub sw_quarters : AreQuarters w w four.sw sw
  pub se_quarters : AreQuarters w w four.se se

pub stay_read : (v w : Keeper) (four nw ne sw se : Quarters) → KeepsQuads 0 v w → AreRead v four nw ne sw se → AreRead w four nw ne sw se
stay_read v w four nw ne sw se k a = record {
  nw_stands = quad_stays 0 v w four.nw k a.nw_stands;
  ne_stands = quad_stays 0 v w four.ne k a.ne_stands;
  sw_stands = quad_stays 0 v w four.sw k a.sw_stands;
  se_stands = quad_stays 0 v w four.se k a.se_stands;
  nw_quarters = quarters_now v v w four.nw nw k k a.nw_stands a.nw_quarters;
  ne_quarters = quarters_now v v w four.ne ne k k a.ne_stands a.ne_quarters;
  sw_quarters = quarters_now v v w four.sw sw k k a.sw_stands a.sw_quarters;
  se_quarters = quarters_now v v w four.se se k k a.se_stands a.se_quarters;
}

-- all were read one after the other
pub all_read : (s0 s1 s2 s3 s4 : Keeper) (q : Quad) (four nw ne sw se : Quarters) → AreQuarters s0 s0 q four
    → KeepsQuads 0 s0 s1 → KeepsQuads 0 s1 s2 → KeepsQuads 0 s2 s3 → KeepsQuads 0 s3 s4
    → AreQuarters s0 s1 four.nw nw → AreQuarters s1 s2 four.ne ne → AreQuarters s2 s3 four.sw sw → AreQuarters s3 s4 four.se se → AreRead s4 four nw ne sw se
all_read s0 s1 s2 s3 s4 q four nw ne sw se a k1 k2 k3 k4 p0 p1 p2 p3 =
    let k02 = keeps_on 0 0 s0 s1 s2 k1 k2 in
    let k03 = keeps_on 0 0 s0 s2 s3 k02 k3 in
    let k04 = keeps_on 0 0 s0 s3 s4 k03 k4 in
    let k24 = keeps_on 0 0 s2 s3 s4 k3 k4 in
    let k14 = keeps_on 0 0 s1 s2 s4 k2 k24 in
    let i = keeps_itself s4 0 k4.after in
    record {
      nw_stands = quad_stays 0 s0 s4 four.nw k04 a.nw;
      ne_stands = quad_stays 0 s0 s4 four.ne k04 a.ne;
      sw_stands = quad_stays 0 s0 s4 four.sw k04 a.sw;
      se_stands = quad_stays 0 s0 s4 four.se k04 a.se;
      nw_quarters = quarters_now s0 s1 s4 four.nw nw k04 k14 a.nw p0;
      ne_quarters = quarters_now s1 s2 s4 four.ne ne k14 k24 (quad_stays 0 s0 s1 four.ne k1 a.ne) p1;
      sw_quarters = quarters_now s2 s3 s4 four.sw sw k24 k4 (quad_stays 0 s0 s2 four.sw k02 a.sw) p2;
      se_quarters = quarters_now s3 s4 s4 four.se se k4 i (quad_stays 0 s0 s3 four.se k03 a.se) p3;
    }
