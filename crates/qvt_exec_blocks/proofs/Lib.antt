mod Charges
