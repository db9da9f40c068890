use Rattle.k2_file.proofs.LawBytes.{bytes-same}
use Rattle.k2_file.proofs.LawFile.{fault-file, relation-file}
use Rattle.k2_file.proofs.laws.files_laws.Goals as goal

pub returns : goal.returns
returns c = record {
  bytes_of_read = λ bytes small none. bytes-same bytes small none;
  read_of_bytes = λ r v a b. (fault-file r v a b, relation-file r v a b);
}
