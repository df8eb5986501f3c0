use Rattle.cmb_netlist.proofs.Names.{number-name_of, number_name}
use Rattle.cmb_netlist.proofs.laws.numbers_and_names.Goals as goal

pub returns : goal.returns
returns c = record {
  number = λ netlist net sound within. number-name_of netlist net sound.different_names within;
  name = number_name;
}
