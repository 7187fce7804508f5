mod Alike
mod Named
mod DxgiNamed
